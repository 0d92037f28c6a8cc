use Rattle.std.proofs.Common.{◌≡◌, None}
use Rattle.enc_rules.specs.First.{first_such}
use Rattle.enc_rules.specs.Rules.{table_is_closed}
use Rattle.enc_rules.proofs.owners.table_is_closed.Given as goal

abbrev pub invariant-loop-k : goal.invariant-loop-k
invariant-loop-k g l = first_such (table_is_closed l.context.chain l.context.list) l.k ≡ None
