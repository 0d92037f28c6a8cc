use Rattle.std.proofs.Common.{◌≡◌, map, drop}
use Rattle.serde_json.specs.View.{view}
use Rattle.enc_jobs.specs.Json.{pair_said}
use Rattle.enc_jobs.specs.Lists.{every}
use Rattle.enc_jobs.proofs.Loops.{behind}
use Rattle.enc_jobs.proofs.remap.every_pair.Given as goal

-- the pairs so far, and those that are left
abbrev pub invariant-loop-value : goal.invariant-loop-value
invariant-loop-value l = behind l.list (every pair_said (map view (drop l.value-index l.items))) ≡ every pair_said (map view l.fn.items)
