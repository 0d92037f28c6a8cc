-- The rows of a table, listed one behind the other.
use Rattle.std.proofs.Common.{◌≡◌, ℕ, zero, suc, ◌+◌, List, [], ◌∷◌, ◌++◌, map, refl, sym, ap, ◌∙◌, arith}
use Rattle.std.specs.List.{range_with_len}
use Rattle.enc_rows.specs.Sums.{below}

-- none, and one more
pub none_upto : [] ≡ map (λ n. n + 1) (below 0)
unfolding below
none_upto = refl

from_suc : (a n : ℕ) → range_with_len a (suc n) ≡ range_with_len a n ++ (a + n) ∷ []
from_suc a zero = let e : a + 0 ≡ a = omega arith in rw e refl
from_suc a (suc n) =
    let e : a + suc n ≡ a + 1 + n = omega arith in
    rw e (ap (λ xs. a ∷ xs) (from_suc (a + 1) n))

map_more : {X : Type 0} (f : ℕ → X) (xs : List ℕ) (x : ℕ) → map f (xs ++ x ∷ []) ≡ map f xs ++ f x ∷ []
map_more f [] x = refl
map_more f (y ∷ ys) x = ap (λ zs. f y ∷ zs) (map_more f ys x)

pub more_mapped : {X : Type 0} (f : ℕ → X) (n : ℕ) → map f (below n) ++ f n ∷ [] ≡ map f (below (n + 1))
unfolding below
more_mapped f n =
    let e : n + 1 ≡ suc n = omega arith in
    let z : 0 + n ≡ n = omega arith in
    sym (map_more f (range_with_len 0 n) n) ∙ ap (λ k. map f (range_with_len 0 n ++ k ∷ [])) (sym z)
    ∙ ap (map f) (sym (from_suc 0 n)) ∙ ap (λ k. map f (range_with_len 0 k)) (sym e)

pub more_upto : (n : ℕ) → map (λ k. k + 1) (below n) ++ (n + 1) ∷ [] ≡ map (λ k. k + 1) (below (n + 1))
more_upto n = more_mapped (λ k. k + 1) n
