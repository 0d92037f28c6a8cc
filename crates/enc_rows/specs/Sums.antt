-- The numbers below one, and sums over them.
use Rattle.std.specs.Prelude.{ℕ, zero, suc, ◌+◌, List}
use Rattle.std.specs.List.{range_with_len}

-- 0, 1, .. below n
unfoldable pub below : ℕ → List ℕ
below n = range_with_len 0 n

-- f 0 + f 1 + .. below n
unfoldable pub sum_below : (ℕ → ℕ) → ℕ → ℕ
sum_below f zero = 0
sum_below f (suc n) = sum_below f n + f n
