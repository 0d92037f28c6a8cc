use Rattle.std.proofs.Common.{◌≡◌, None}
use Rattle.enc_rules.specs.First.{first_such}
use Rattle.enc_rules.specs.Rules.{owner_is_missing}
use Rattle.enc_rules.proofs.owners.owner_is_missing.Given as goal

abbrev pub invariant-loop-k : goal.invariant-loop-k
invariant-loop-k g l = first_such (owner_is_missing l.context.chain l.context.list) l.k ≡ None
