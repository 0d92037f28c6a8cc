-- Lists and sums over the numbers below one.
use Rattle.std.proofs.Common.{◌≡◌, ℕ, zero, suc, ◌+◌, ◌-◌, ◌<◌, ◌≤◌, List, length, map, get_or, refl, ap, ◌∙◌, arith}
use Rattle.std.proofs.Common.{Bool, true, false}
use Rattle.std.specs.Prelude.{◌&&◌, ◌||◌}
use Rattle.std.specs.List.{list_all, list_any, range_with_len}
use Rattle.std.proofs.lemmas.List.FromFn.{fill_by_all}
use Rattle.enc_rows.specs.Sums.{below, sum_below}

-- a list of n numbers that has f k at each k is f of the numbers below n
pub filled_below : (f : ℕ → ℕ) (xs : List ℕ) (n : ℕ) → length xs ≡ n → ((k : ℕ) → k < n → get_or xs k 0 ≡ f k) → xs ≡ map f (below n)
unfolding below
filled_below f xs n len at = fill_by_all f xs n 0 len at

pub sum_none : (f : ℕ → ℕ) → sum_below f 0 ≡ 0
unfolding sum_below
sum_none f = refl

pub sum_suc : (f : ℕ → ℕ) (n : ℕ) → sum_below f (suc n) ≡ sum_below f n + f n
unfolding sum_below
sum_suc f n = refl

pub sum_more : (f : ℕ → ℕ) (n : ℕ) → sum_below f (n + 1) ≡ sum_below f n + f n
sum_more f n = let e : n + 1 ≡ suc n = omega arith in rw e (sum_suc f n)

sum_further : (f : ℕ → ℕ) (n d : ℕ) → sum_below f n ≤ sum_below f (n + d)
sum_further f n zero = let e : n + 0 ≡ n = omega arith in rw e (omega arith)
sum_further f n (suc d) =
    let e : n + suc d ≡ suc (n + d) = omega arith in
    rw (e, sum_suc f (n + d)) (omega (arith, sum_further f n d))

-- a sum over more numbers isn't less, and has room for the next one
pub sum_le : (f : ℕ → ℕ) (m n : ℕ) → m ≤ n → sum_below f m ≤ sum_below f n
sum_le f m n h = let e : n ≡ m + (n - m) = omega arith in rw e (sum_further f m (n - m))

pub sum_part : (f : ℕ → ℕ) (m n : ℕ) → m < n → sum_below f m + f m ≤ sum_below f n
sum_part f m n h = omega (arith, sum_more f m, sum_le f (m + 1) n (omega arith))

-- a test of all numbers below one
pub all_none : (p : ℕ → Bool) → list_all p (below 0) ≡ true
unfolding below
all_none p = refl

by_end : (b : Bool) → (b && true) ≡ (true && b)
by_end true = refl
by_end false = refl

by_false : (b : Bool) → (b && false) ≡ false
by_false true = refl
by_false false = refl

by_three : (a b c : Bool) → (a && (b && c)) ≡ ((a && b) && c)
by_three true b c = refl
by_three false b c = refl

from_more : (p : ℕ → Bool) (a n : ℕ) → list_all p (range_with_len a (suc n)) ≡ (list_all p (range_with_len a n) && p (a + n))
from_more p a zero = let e : a + 0 ≡ a = omega arith in rw e (by_end (p a))
from_more p a (suc n) =
    let e : a + suc n ≡ a + 1 + n = omega arith in
    rw e (ap (λ b. p a && b) (from_more p (a + 1) n) ∙ by_three (p a) (list_all p (range_with_len (a + 1) n)) (p (a + 1 + n)))

pub all_more : (p : ℕ → Bool) (n : ℕ) → list_all p (below (n + 1)) ≡ (list_all p (below n) && p n)
unfolding below
all_more p n =
    let e : n + 1 ≡ suc n = omega arith in
    let z : 0 + n ≡ n = omega arith in
    rw e (from_more p 0 n ∙ ap (λ k. list_all p (range_with_len 0 n) && p k) z)

stays_false : (p : ℕ → Bool) (n d : ℕ) → p n ≡ false → list_all p (below (n + 1 + d)) ≡ false
stays_false p n zero h = let e : n + 1 + 0 ≡ n + 1 = omega arith in rw (e, all_more p n, h) (by_false (list_all p (below n)))
stays_false p n (suc d) h =
    let e : n + 1 + suc d ≡ n + 1 + d + 1 = omega arith in
    rw (e, all_more p (n + 1 + d), stays_false p n d h) refl

-- one that fails is enough
pub all_false : (p : ℕ → Bool) (n m : ℕ) → n < m → p n ≡ false → list_all p (below m) ≡ false
all_false p n m lt h = let e : m ≡ n + 1 + (m - (n + 1)) = omega arith in rw e (stays_false p n (m - (n + 1)) h)

-- some number below one passes a test
pub any_none : (p : ℕ → Bool) → list_any p (below 0) ≡ false
unfolding below
any_none p = refl

or_end : (b : Bool) → (b || false) ≡ (false || b)
or_end true = refl
or_end false = refl

or_true : (b : Bool) → (b || true) ≡ true
or_true true = refl
or_true false = refl

or_three : (a b c : Bool) → (a || (b || c)) ≡ ((a || b) || c)
or_three true b c = refl
or_three false b c = refl

any_from : (p : ℕ → Bool) (a n : ℕ) → list_any p (range_with_len a (suc n)) ≡ (list_any p (range_with_len a n) || p (a + n))
any_from p a zero = let e : a + 0 ≡ a = omega arith in rw e (or_end (p a))
any_from p a (suc n) =
    let e : a + suc n ≡ a + 1 + n = omega arith in
    rw e (ap (λ b. p a || b) (any_from p (a + 1) n) ∙ or_three (p a) (list_any p (range_with_len (a + 1) n)) (p (a + 1 + n)))

pub any_more : (p : ℕ → Bool) (n : ℕ) → list_any p (below (n + 1)) ≡ (list_any p (below n) || p n)
unfolding below
any_more p n =
    let e : n + 1 ≡ suc n = omega arith in
    let z : 0 + n ≡ n = omega arith in
    rw e (any_from p 0 n ∙ ap (λ k. list_any p (range_with_len 0 n) || p k) z)

stays_true : (p : ℕ → Bool) (n d : ℕ) → p n ≡ true → list_any p (below (n + 1 + d)) ≡ true
stays_true p n zero h = let e : n + 1 + 0 ≡ n + 1 = omega arith in rw (e, any_more p n, h) (or_true (list_any p (below n)))
stays_true p n (suc d) h =
    let e : n + 1 + suc d ≡ n + 1 + d + 1 = omega arith in
    rw (e, any_more p (n + 1 + d), stays_true p n d h) refl

-- one that passes is enough
pub any_true : (p : ℕ → Bool) (n m : ℕ) → n < m → p n ≡ true → list_any p (below m) ≡ true
any_true p n m lt h = let e : m ≡ n + 1 + (m - (n + 1)) = omega arith in rw e (stays_true p n (m - (n + 1)) h)

pub ruleset sum_steps = (sum_none, sum_more)

pub ruleset any_steps = (any_none, any_more, any_true)
