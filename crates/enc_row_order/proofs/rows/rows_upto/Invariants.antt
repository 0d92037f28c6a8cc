use Rattle.std.proofs.Common.{◌≡◌, ◌+◌, map}
use Rattle.enc_rows.specs.Sums.{below}
use Rattle.enc_row_order.proofs.rows.rows_upto.Given as goal

abbrev pub invariant-loop-n : goal.invariant-loop-n
invariant-loop-n l = l.rows.items ≡ map (λ n. n + 1) (below l.n)
