use Rattle.std.proofs.Common.{◌≡◌}
use Rattle.enc_delta.proofs.shared.learn_shared.Given as goal

abbrev pub invariant-loop-k : goal.invariant-loop-k
invariant-loop-k g l = l.members ≡ l.fn.members
