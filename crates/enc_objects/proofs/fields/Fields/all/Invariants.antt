use Rattle.std.proofs.Common.{◌≡◌, ◌++◌}
use Rattle.enc_objects.proofs.fields.Fields.all.Given as goal

abbrev pub invariant-loop-token : goal.invariant-loop-token
invariant-loop-token l = l.all.items ++ l.token-iterator ≡ l.self
