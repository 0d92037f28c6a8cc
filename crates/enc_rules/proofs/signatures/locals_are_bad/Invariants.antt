use Rattle.std.proofs.Common.{◌≡◌, None}
use Rattle.enc_rules.specs.First.{first_such}
use Rattle.enc_rules.specs.Rules.{locals_are_bad}
use Rattle.enc_rules.proofs.signatures.locals_are_bad.Given as goal

abbrev pub invariant-loop-k : goal.invariant-loop-k
invariant-loop-k g l = first_such (locals_are_bad l.context.chain l.context.list) l.k ≡ None
