-- Lists made from the numbers below one.
use Rattle.std.proofs.Common.{◌≡◌, ℕ, zero, suc, ◌+◌, ◌<◌, ◌≤◌, length, map, Some, None, refl, ap, ◌∙◌, arith}
use Rattle.std.specs.Prelude.{slice_get}
use Rattle.std.specs.List.{range_with_len}
use Rattle.enc_rows.specs.Sums.{below}

from_get : {X : Type 0} (f : ℕ → X) (a n i : ℕ) → i < n → slice_get (map f (range_with_len a n)) i ≡ Some (f (a + i))
from_get f a zero i h = absurd (omega arith)
from_get f a (suc n) zero h = let e : a + 0 ≡ a = omega arith in rw e refl
from_get f a (suc n) (suc i) h = let e : a + suc i ≡ a + 1 + i = omega arith in rw e (from_get f (a + 1) n i (omega arith))

-- the i-th element is f of i
pub get_below : {X : Type 0} (f : ℕ → X) (n i : ℕ) → i < n → slice_get (map f (below n)) i ≡ Some (f i)
unfolding below
get_below f n i h = let e : 0 + i ≡ i = omega arith in from_get f 0 n i h ∙ ap (λ k. Some (f k)) e

from_past : {X : Type 0} (f : ℕ → X) (a n i : ℕ) → n ≤ i → slice_get (map f (range_with_len a n)) i ≡ None
from_past f a zero i h = refl
from_past f a (suc n) zero h = absurd (omega arith)
from_past f a (suc n) (suc i) h = from_past f (a + 1) n i (omega arith)

pub get_past : {X : Type 0} (f : ℕ → X) (n i : ℕ) → n ≤ i → slice_get (map f (below n)) i ≡ None
unfolding below
get_past f n i h = from_past f 0 n i h

from_length : {X : Type 0} (f : ℕ → X) (a n : ℕ) → length (map f (range_with_len a n)) ≡ n
from_length f a zero = refl
from_length f a (suc n) = omega (arith, from_length f (a + 1) n)

pub length_below : {X : Type 0} (f : ℕ → X) (n : ℕ) → length (map f (below n)) ≡ n
unfolding below
length_below f n = from_length f 0 n
