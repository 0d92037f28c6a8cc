use Rattle.std.proofs.Common.{◌≡◌}
use Rattle.enc_plain.proofs.ref_keys.RefKeys.learn_refs.Given as goal

abbrev pub invariant-loop-at : goal.invariant-loop-at
invariant-loop-at g l = l.self ≡ l.fn.self
