-- The tests of a token let through only numbers that name a table.
use Rattle.std.proofs.Common.{◌≡◌, ℕ, Bool, true, false, ◌/◌, ◌%◌, refl}
use Rattle.std.specs.Prelude.{◌&&◌, nat_le}
use Rattle.enc_sigs.specs.Grammar.{NamesTables, is_coded, is_counted, table_of}

pub coded_names : NamesTables is_coded
coded_names n e = e

first_of_three : (s t u : Bool) → (s && t && u) ≡ true → s ≡ true
first_of_three true t u e = refl
first_of_three false t u e = absurd (cc)

pub counted_names : (count : ℕ → ℕ) → NamesTables (is_counted count)
unfolding is_counted
counted_names count n e = first_of_three (is_coded n) (nat_le 1 (n / 4)) (nat_le (n / 4) (count (table_of (n % 4)))) e
