-- Items one after the other.
use Rattle.std.specs.Prelude.{◌≡◌, ℕ, zero, suc, ◌+◌, ◌≤◌, List, [], ◌∷◌, ◌++◌, drop, length, map, take, Some, slice_get, slice_set}
use Rattle.std.proofs.Common.{sym, ap, ◌∙◌, add-one, arith}
use Rattle.std.proofs.lemmas.List.{map_more}
use Rattle.std.proofs.lemmas.Option.{slice_get_within, get_or_from_slice_get}

-- one more, by its place
pub one_more : {X Y : Type 0} (f : X → Y) (xs : List X) (i : ℕ) (x : X) → slice_get xs i ≡ Some x → map f (take (i + 1) xs) ≡ map f (take i xs) ++ f x ∷ []
one_more {X} f xs i x is =
    map_more f xs i x (slice_get_within xs i x is) ∙ ap (λ (y : X). map f (take i xs) ++ f y ∷ []) (get_or_from_slice_get xs i x x is)

-- and written over the front of others
written_suc : {X Y : Type 0} (f : X → Y) (xs : List X) (old : List Y) (i : ℕ) (x : X) → slice_get xs i ≡ Some x → length xs ≤ length old
    → slice_set (map f (take i xs) ++ drop i old) i (f x) ≡ map f (take (suc i) xs) ++ drop (suc i) old
written_suc f [] old i x is few = absurd cc
written_suc f (y ∷ xs) [] i x is few = absurd (omega arith)
written_suc f (y ∷ xs) (z ∷ old) zero x is few = let same : y ≡ x = cc in ap (λ (w : _). f w ∷ old) (sym same)
written_suc f (y ∷ xs) (z ∷ old) (suc i) x is few = ap (λ (ws : List _). f y ∷ ws) (written_suc f xs old i x is (omega arith))

pub written_more : {X Y : Type 0} (f : X → Y) (xs : List X) (old now : List Y) (i : ℕ) (x : X) (y : Y) → slice_get xs i ≡ Some x → length xs ≤ length old
    → now ≡ map f (take i xs) ++ drop i old → y ≡ f x → slice_set now i y ≡ map f (take (i + 1) xs) ++ drop (i + 1) old
written_more f xs old now i x y is few before next = rw (before, next, add-one i) (written_suc f xs old i x is few)
