use Rattle.std.proofs.Common.{◌≡◌, ◌++◌, length, map}
use Rattle.enc_machine_types.specs.Fronts.{all_kinds}
use Rattle.enc_objects.specs.Values.{default_of}
use Rattle.enc_frames.proofs.arguments.defaults.Given as goal

-- the defaults so far and those of what is left are all
abbrev pub invariant-loop-next : goal.invariant-loop-next
invariant-loop-next l = l.values.items ++ map default_of (all_kinds l.next) ≡ map default_of l.fn.kinds

abbrev pub decreases-loop-next : goal.decreases-loop-next
decreases-loop-next l = length (all_kinds l.next)
