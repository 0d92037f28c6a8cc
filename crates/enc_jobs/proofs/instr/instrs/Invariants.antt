use Rattle.std.proofs.Common.{◌≡◌, map, drop}
use Rattle.serde_json.specs.View.{view}
use Rattle.enc_jobs.specs.Instr.{instr_said}
use Rattle.enc_jobs.specs.Lists.{every}
use Rattle.enc_jobs.proofs.Loops.{behind}
use Rattle.enc_jobs.proofs.instr.instrs.Given as goal

-- the instructions so far, and those that are left
abbrev pub invariant-loop-value : goal.invariant-loop-value
invariant-loop-value l = behind l.list.items (every instr_said (map view (drop l.value-index l.items))) ≡ every instr_said (map view l.fn.items)
