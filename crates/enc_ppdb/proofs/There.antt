-- A test of all points from an index on.
use Rattle.std.proofs.Common.{◌≡◌, ℕ, zero, suc, ◌+◌, ◌≤◌, Bool, true, false, List, [], ◌∷◌, length, drop, Some, refl, ap, ◌∙◌, arith}
use Rattle.std.proofs.lemmas.List.{drop_all}
use Rattle.std.specs.Prelude.{◌&&◌, slice_get}
use Rattle.std.specs.List.{list_all}
use Rattle.enc_seqpoints.specs.declared.point.Point.{Point}

all_from : (f : Point → Bool) (points : List Point) (i : ℕ) (p : Point) → slice_get points i ≡ Some p → list_all f (drop i points) ≡ (f p && list_all f (drop (suc i) points))
all_from f [] i p is = absurd (cc)
all_from f (q ∷ points) zero p is = let e : q ≡ p = cc in rw e refl
all_from f (q ∷ points) (suc i) p is = all_from f points i p is

-- one more point passes
pub all_more : (f : Point → Bool) (points : List Point) (i : ℕ) (p : Point) → slice_get points i ≡ Some p → f p ≡ true → list_all f (drop i points) ≡ list_all f (drop (i + 1) points)
all_more f points i p is good =
    let e : i + 1 ≡ suc i = omega arith in
    rw e (all_from f points i p is ∙ ap (λ t. t && list_all f (drop (suc i) points)) good)

-- one doesn't
pub all_fails : (f : Point → Bool) (points : List Point) (i : ℕ) (p : Point) → slice_get points i ≡ Some p → f p ≡ false → list_all f (drop i points) ≡ false
all_fails f points i p is bad = all_from f points i p is ∙ ap (λ t. t && list_all f (drop (suc i) points)) bad

-- none is left
pub all_done : (f : Point → Bool) (points : List Point) (i : ℕ) → length points ≤ i → list_all f (drop i points) ≡ true
all_done f points i le = let e : drop i points ≡ [] = drop_all i points le in rw e refl
