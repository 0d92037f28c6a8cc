use Rattle.std.proofs.Common.{sym, refl}
use Rattle.enc_machine_types.proofs.KindsAt.{parameters_there}
use Rattle.enc_machine_types.proofs.kinds.parameters_front.Goals as goal

pub invariant_of-result : goal.invariant_of-result
invariant_of-result c = (parameters_there c.args.count c.args.bytes.now c.in_ok-behind.behind.now (rw (← c.past_parameters.ensures, c.in_ok-behind.was) refl)).1

pub returns : goal.returns
returns c = sym ((parameters_there c.args.count c.args.bytes.now c.in_ok-behind.behind.now (rw (← c.past_parameters.ensures, c.in_ok-behind.was) refl)).0)
