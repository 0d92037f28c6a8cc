use Rattle.std.proofs.Common.{◌≡◌, None}
use Rattle.enc_rules.specs.First.{first_such}
use Rattle.enc_rules.specs.Rules.{method_has_no_slot}
use Rattle.enc_rules.proofs.members.method_has_no_slot.Given as goal

abbrev pub invariant-loop-k : goal.invariant-loop-k
invariant-loop-k g l = first_such (method_has_no_slot l.context.chain l.context.list) l.k ≡ None
