use Rattle.std.proofs.Common.{◌-◌, ◌∙◌, arith, sym}
use Rattle.enc_machine_types.proofs.KindsLeft.{none_there, kinds_first, others_counted}
use Rattle.enc_machine_types.proofs.kinds.Kinds.split_first.Goals as goal

pub returns-in_default : goal.returns-in_default
returns-in_default c = sym (none_there c.self.inside.count c.self.inside.bytes.now c.in_default.ensures) ∙ c.self.view_is

pub invariant_of-others : goal.invariant_of-others
invariant_of-others c = others_counted c.self.inside.count (c.self.inside.count - 1) c.self.inside.bytes.now _ _ (omega arith) c.in-Some.ensures c.self.invariant

pub returns : goal.returns
returns c = sym (kinds_first c.self.inside.count (c.self.inside.count - 1) c.self.inside.bytes.now _ _ (omega arith) c.in-Some.ensures) ∙ c.self.view_is
