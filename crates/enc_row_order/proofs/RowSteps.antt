-- How the places of rows are found, from the last row down: where a row stands twice, the first place is put last.
use Rattle.std.proofs.Common.{◌≡◌, ℕ, zero, suc, ◌+◌, ◌-◌, ◌<◌, ◌≤◌, Bool, true, false, List, [], ◌∷◌, length, map, drop, slice_index_or, slice_set, Some, refl}
use Rattle.std.proofs.Common.{sym, ap, subst, ◌∙◌, arith}
use Rattle.std.specs.Prelude.{◌≢◌, ◌==◌, slice_get, if◌then◌else◌}
use Rattle.std.specs.List.{list_all}
use Rattle.std.proofs.lemmas.Bool.{and_parts, eqb-true, eqb-false}
use Rattle.std.proofs.lemmas.Bool.Decides.{nat_tests}
use Rattle.std.proofs.lemmas.List.{length-set}
use Rattle.enc_row_order.specs.Orders.{place_behind}
use Rattle.enc_row_order.specs.Places.{is_row_within, ArePlacedFrom}
use Rattle.enc_rows.specs.Sums.{below}
use Rattle.enc_rows.proofs.Listed.{get_below, length_below}

get_other : (xs : List ℕ) (i j y : ℕ) → i ≢ j → slice_get (slice_set xs i y) j ≡ slice_get xs j
get_other [] i j y d = refl
get_other (x ∷ xs) zero zero y d = absurd (d refl)
get_other (x ∷ xs) zero (suc j) y d = refl
get_other (x ∷ xs) (suc i) zero y d = refl
get_other (x ∷ xs) (suc i) (suc j) y d = get_other xs i j y (λ e. d (ap suc e))

get_set : (xs : List ℕ) (i y : ℕ) → i < length xs → slice_get (slice_set xs i y) i ≡ Some y
get_set [] i y low = absurd (omega (arith, low))
get_set (x ∷ xs) zero y low = refl
get_set (x ∷ xs) (suc i) y low = get_set xs i y (omega (arith, low))

drop_one : (xs : List ℕ) (i d : ℕ) → i < length xs → drop i xs ≡ slice_index_or xs i d ∷ drop (i + 1) xs
drop_one [] i d low = absurd (omega (arith, low))
drop_one (x ∷ xs) zero d low = refl
drop_one (x ∷ xs) (suc i) d low =
    let e : suc i + 1 ≡ suc (i + 1) = omega arith in
    rw e (drop_one xs i d (omega (arith, low)))

drop_whole : (xs : List ℕ) → drop (length xs) xs ≡ []
drop_whole [] = refl
drop_whole (x ∷ xs) = drop_whole xs

row_at : (p : ℕ → Bool) (xs : List ℕ) (i d : ℕ) → list_all p xs ≡ true → i < length xs → p (slice_index_or xs i d) ≡ true
row_at p [] i d all low = absurd (omega (arith, low))
row_at p (x ∷ xs) zero d all low = (and_parts (p x) (list_all p xs) all).0
row_at p (x ∷ xs) (suc i) d all low = row_at p xs i d (and_parts (p x) (list_all p xs) all).1 (omega (arith, low))

place_by : (before r row : ℕ) (rest : List ℕ) (b : Bool) → (r == row) ≡ b
    → place_behind before (r ∷ rest) row ≡ (if b then before + 1 else place_behind (before + 1) rest row)
unfolding place_behind
place_by before r row rest b e = ap (λ c. if c then before + 1 else place_behind (before + 1) rest row) e

-- behind the last row none is placed
pub no_places : (old : List ℕ) → ArePlacedFrom (length old) (length old) (drop (length old) old) (map (λ n. n + 1) (below (length old)))
unfolding place_behind
no_places old = record {
  count = length_below (λ n. n + 1) (length old);
  each = λ i low. get_below (λ n. n + 1) (length old) i low ∙ ap (λ xs. Some (place_behind (length old) xs (i + 1))) (sym (drop_whole old));
}

step : (old new : List ℕ) (i d : ℕ) → ArePlacedFrom (i + 1) (length old) (drop (i + 1) old) new → i < length old
    → list_all (is_row_within (length old)) old ≡ true
    → ArePlacedFrom i (length old) (drop i old) (slice_set new (slice_index_or old i d - 1) (i + 1))
step old new i d are low rows = record {
  count = length-set new (slice_index_or old i d - 1) (i + 1) ∙ are.count;
  each = λ j less. by j less (slice_index_or old i d == j + 1) refl;
}
  where
    is_row : is_row_within (length old) (slice_index_or old i d) ≡ true
    is_row = row_at (is_row_within (length old)) old i d rows low

    some : 1 ≤ slice_index_or old i d
    some = let row = is_row in grind (arith, nat_tests)

    place : (j : ℕ) (b : Bool) → (slice_index_or old i d == j + 1) ≡ b
        → place_behind i (drop i old) (j + 1) ≡ (if b then i + 1 else place_behind (i + 1) (drop (i + 1) old) (j + 1))
    place j b e = ap (λ xs. place_behind i xs (j + 1)) (drop_one old i d low) ∙ place_by i (slice_index_or old i d) (j + 1) (drop (i + 1) old) b e

    by : (j : ℕ) → j < length old → (b : Bool) → (slice_index_or old i d == j + 1) ≡ b
        → slice_get (slice_set new (slice_index_or old i d - 1) (i + 1)) j ≡ Some (place_behind i (drop i old) (j + 1))
    by j less true e =
        let same : slice_index_or old i d ≡ j + 1 = eqb-true (slice_index_or old i d) (j + 1) e in
        let at : slice_index_or old i d - 1 ≡ j = omega (arith, same) in
        let count = are.count in
        ap (λ k. slice_get (slice_set new k (i + 1)) j) at ∙ get_set new j (i + 1) (omega (arith, less, count)) ∙ ap Some (sym (place j true e))
    by j less false e =
        let other : slice_index_or old i d - 1 ≢ j = λ same. eqb-false (slice_index_or old i d) (j + 1) e (omega (arith, same, some)) in
        get_other new (slice_index_or old i d - 1) j (i + 1) other ∙ are.each j less ∙ ap Some (sym (place j false e))

-- one row more, from the last down
pub one_down : (old new : List ℕ) (i d : ℕ) → 0 < i → i ≤ length old → list_all (is_row_within (length old)) old ≡ true
    → ArePlacedFrom i (length old) (drop i old) new
    → ArePlacedFrom (i - 1) (length old) (drop (i - 1) old) (slice_set new (slice_index_or old (i - 1) d - 1) (i - 1 + 1))
one_down old new i d some low rows are =
    let e : i ≡ i - 1 + 1 = omega (arith, some) in
    step old new (i - 1) d (subst (λ k. ArePlacedFrom k (length old) (drop k old) new) e are) (omega (arith, some, low)) rows
