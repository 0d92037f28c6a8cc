use Rattle.std.proofs.Common.{◌≡◌, map, drop}
use Rattle.serde_json.specs.View.{view}
use Rattle.enc_jobs.specs.Json.{word_said}
use Rattle.enc_jobs.specs.Lists.{every}
use Rattle.enc_jobs.proofs.Loops.{behind}
use Rattle.enc_jobs.proofs.instr.indices.Given as goal

-- the indices so far, and those that are left
abbrev pub invariant-loop-value : goal.invariant-loop-value
invariant-loop-value l = behind l.list (every word_said (map view (drop l.value-index l.items))) ≡ every word_said (map view l.fn.items)
