use Rattle.std.proofs.Common.{◌≡◌, map, drop}
use Rattle.serde_json.specs.View.{view}
use Rattle.enc_jobs.specs.Scripts.{command_said}
use Rattle.enc_jobs.specs.Lists.{read_in_turn}
use Rattle.enc_jobs.proofs.Numbered.{follows}
use Rattle.enc_jobs.proofs.script.commands.Given as goal

-- the edits so far, and those that are left
abbrev pub invariant-loop-value : goal.invariant-loop-value
invariant-loop-value l = follows l.script (read_in_turn command_said l.number (map view (drop l.value-index l.items))) ≡ read_in_turn command_said 1 (map view l.fn.items)
