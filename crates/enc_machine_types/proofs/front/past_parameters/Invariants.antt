use Rattle.std.proofs.Common.{◌≡◌}
use Rattle.enc_sigs.specs.Reads.{left_after}
use Rattle.enc_machine_types.specs.Fronts.{parameter_kinds}
use Rattle.enc_machine_types.proofs.front.past_parameters.Given as goal

abbrev pub invariant-loop-left : goal.invariant-loop-left
invariant-loop-left l = left_after (parameter_kinds l.fn.count l.fn.bytes) ≡ left_after (parameter_kinds l.left l.rest)

abbrev pub decreases-loop-left : goal.decreases-loop-left
decreases-loop-left l = l.left
