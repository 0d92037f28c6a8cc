use Rattle.std.proofs.Common.{◌≡◌, None}
use Rattle.enc_rules.specs.First.{first_such}
use Rattle.enc_rules.specs.Rules.{field_is_out_of_layout}
use Rattle.enc_rules.proofs.members.field_is_out_of_layout.Given as goal

abbrev pub invariant-loop-k : goal.invariant-loop-k
invariant-loop-k g l = first_such (field_is_out_of_layout l.context.chain l.context.list) l.k ≡ None
