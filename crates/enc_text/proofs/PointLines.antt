-- The lines of points, one after the other.
use Rattle.std.proofs.Common.{◌≡◌, ℕ, zero, suc, ◌+◌, ◌≤◌, List, [], ◌∷◌, ◌++◌, length, drop, map, Option, Some, None, refl, ap, arith}
use Rattle.std.specs.Prelude.{flat_map, slice_get}

-- one more, by its place
pub lines_more : {X Y : Type 0} (f : Y → List ℕ) (g : X → Y) (xs : List X) (i : ℕ) (x : X) → slice_get xs i ≡ Some x → flat_map f (map g (drop i xs)) ≡ f (g x) ++ flat_map f (map g (drop (i + 1) xs))
lines_more f g [] i x is = absurd (cc)
lines_more f g (y ∷ ys) zero x is = let e : y ≡ x = cc in rw e refl
lines_more f g (y ∷ ys) (suc i) x is = let e : suc i + 1 ≡ suc (i + 1) = omega arith in rw e (lines_more f g ys i x is)

-- none left
pub lines_done : {X Y : Type 0} (f : Y → List ℕ) (g : X → Y) (xs : List X) (i : ℕ) → length xs ≤ i → flat_map f (map g (drop i xs)) ≡ []
lines_done f g [] zero h = refl
lines_done f g [] (suc i) h = refl
lines_done f g (x ∷ xs) zero h = absurd (omega arith)
lines_done f g (x ∷ xs) (suc i) h = lines_done f g xs i (omega arith)
