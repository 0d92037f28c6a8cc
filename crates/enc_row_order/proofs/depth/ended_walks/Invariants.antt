use Rattle.std.proofs.Common.{◌≡◌, ℕ, map}
use Rattle.enc_row_order.specs.Walks.{ended}
use Rattle.enc_rows.specs.Sums.{below}
use Rattle.enc_row_order.proofs.depth.ended_walks.Given as goal

abbrev pub invariant-loop-n : goal.invariant-loop-n
invariant-loop-n l = l.walks.items ≡ map (λ (n : ℕ). ended) (below l._n)
