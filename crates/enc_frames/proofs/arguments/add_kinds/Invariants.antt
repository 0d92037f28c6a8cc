use Rattle.std.proofs.Common.{◌≡◌, ◌++◌, length}
use Rattle.enc_machine_types.specs.Fronts.{all_kinds}
use Rattle.enc_frames.proofs.arguments.add_kinds.Given as goal

-- what was added and what is left are all
abbrev pub invariant-loop-next : goal.invariant-loop-next
invariant-loop-next l = l.kinds.items ++ all_kinds l.next ≡ l.fn.kinds.items ++ l.fn.more

abbrev pub decreases-loop-next : goal.decreases-loop-next
decreases-loop-next l = length (all_kinds l.next)
