use Rattle.std.proofs.Common.{◌≡◌}
use Rattle.std.specs.Prelude.{drop}
use Rattle.enc_delta.proofs.ListsSets.{mismatch}
use Rattle.enc_delta.proofs.lists.least_apart.Given as goal

abbrev pub invariant-loop-k : goal.invariant-loop-k
invariant-loop-k l = mismatch l.left l.right ≡ mismatch (drop l.k l.left) (drop l.k l.right)
