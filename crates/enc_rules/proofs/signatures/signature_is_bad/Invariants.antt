use Rattle.std.proofs.Common.{◌≡◌, None}
use Rattle.enc_rules.specs.First.{first_such}
use Rattle.enc_rules.specs.Rules.{signature_is_bad}
use Rattle.enc_rules.proofs.signatures.signature_is_bad.Given as goal

abbrev pub invariant-loop-k : goal.invariant-loop-k
invariant-loop-k g l = first_such (signature_is_bad l.context.chain l.context.list) l.k ≡ None
