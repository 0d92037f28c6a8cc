-- Where rows stand in a new order, and which stand there.
use Rattle.std.proofs.Common.{◌≡◌, ℕ, zero, suc, ◌+◌, ◌-◌, ◌<◌, ◌≤◌, ◌^◌, Bool, true, false, List, [], ◌∷◌, length, Option, Some, None, refl, sym, ap, subst}
use Rattle.std.proofs.Common.{◌∙◌, arith}
use Rattle.std.specs.Prelude.{◌==◌, slice_get, unwrap_or, if◌then◌else◌}
use Rattle.std.specs.List.{list_all}
use Rattle.std.proofs.lemmas.Bool.{and_parts, ne_eqb}
use Rattle.std.proofs.lemmas.Bool.Decides.{nat_tests}
use Rattle.std.proofs.lemmas.Option.{slice_get_within}
use Rattle.enc_row_order.specs.Orders.{place_in_order, old_row, place_behind}
use Rattle.enc_row_order.specs.Places.{is_row_within, AreNewPlaces, ArePlacedFrom}

pub all_at : (p : ℕ → Bool) (xs : List ℕ) (i x : ℕ) → list_all p xs ≡ true → slice_get xs i ≡ Some x → p x ≡ true
all_at p [] i x all is = absurd cc
all_at p (y ∷ ys) zero x all is = let e : y ≡ x = cc in subst (λ z. p z ≡ true) e (and_parts (p y) (list_all p ys) all).0
all_at p (y ∷ ys) (suc i) x all is = all_at p ys i x (and_parts (p y) (list_all p ys) all).1 is

past_length : (xs : List ℕ) (i : ℕ) → slice_get xs i ≡ None → length xs ≤ i
past_length [] i is = omega arith
past_length (y ∷ ys) zero is = absurd cc
past_length (y ∷ ys) (suc i) is = omega (arith, past_length ys i is)

-- what is no row isn't in an order of rows, and stays
stays_behind : (before n row : ℕ) (rows : List ℕ) → is_row_within n row ≡ false → list_all (is_row_within n) rows ≡ true → place_behind before rows row ≡ row
unfolding place_behind
stays_behind before n row [] none all = refl
stays_behind before n row (r ∷ rest) none all =
    let both = and_parts (is_row_within n r) (list_all (is_row_within n) rest) all in
    let other : (r == row) ≡ false = ne_eqb r row (λ e. let is : is_row_within n r ≡ false = rw e none in absurd cc) in
    rw other (stays_behind (before + 1) n row rest none both.1)

pub stays : (n row : ℕ) (rows : List ℕ) → is_row_within n row ≡ false → list_all (is_row_within n) rows ≡ true → place_in_order rows row ≡ row
unfolding place_in_order
stays n row rows none all = stays_behind 0 n row rows none all

-- places are within the order
low_behind : (before bound row : ℕ) (rows : List ℕ) → before + length rows < bound → row < bound → place_behind before rows row < bound
unfolding place_behind
low_behind before bound row [] few low = low
low_behind before bound row (r ∷ rest) few low = by (r == row) (low_behind (before + 1) bound row rest (omega (arith, few)) low)
  where
    by : (b : Bool) → place_behind (before + 1) rest row < bound → (if b then before + 1 else place_behind (before + 1) rest row) < bound
    by true later = omega (arith, few)
    by false later = later

pub new_low : (rows : List ℕ) (row : ℕ) → length rows < 2 ^ 24 → row < 2 ^ 24 → place_in_order rows row < 2 ^ 24
unfolding place_in_order
new_low rows row few low = low_behind 0 (2 ^ 24) row rows (omega (arith, few)) low

-- what is listed of a row is its place
pub listed_place : (old new : List ℕ) (row x : ℕ) → AreNewPlaces old new → 0 < row → slice_get new (row - 1) ≡ Some x → x ≡ place_in_order old row
listed_place old new row x are some is =
    let low : row - 1 < length new = slice_get_within new (row - 1) x is in
    let e : row - 1 + 1 ≡ row = omega (arith, some) in
    let at : slice_get new (row - 1) ≡ Some (place_in_order old (row - 1 + 1)) = are.each (row - 1) (omega (arith, low, are.count)) in
    let same : Some x ≡ Some (place_in_order old (row - 1 + 1)) = sym is ∙ at in
    let found : x ≡ place_in_order old (row - 1 + 1) = cc in
    found ∙ ap (place_in_order old) e

-- past the last, and at 0, nothing moves
pub past_place : (old new : List ℕ) (row : ℕ) → AreNewPlaces old new → 0 < row → slice_get new (row - 1) ≡ None → row ≡ place_in_order old row
past_place old new row are some none =
    let high : length new ≤ row - 1 = past_length new (row - 1) none in
    let count = are.count in
    let out : is_row_within (length old) row ≡ false = grind (arith, nat_tests) in
    sym (stays (length old) row old out are.rows)

pub zero_place : (old new : List ℕ) → AreNewPlaces old new → 0 ≡ place_in_order old 0
zero_place old new are = sym (stays (length old) 0 old refl are.rows)

pub old_zero : (rows : List ℕ) → 0 ≡ old_row rows 0
unfolding old_row
old_zero rows = refl

pub old_there : (rows : List ℕ) (place x : ℕ) → 0 < place → slice_get rows (place - 1) ≡ Some x → x ≡ old_row rows place
unfolding old_row
old_there rows zero x some is = absurd (omega (arith, some))
old_there rows (suc i) x some is =
    let e : suc i - 1 ≡ i = omega arith in
    let at : slice_get rows i ≡ Some x = ap (slice_get rows) (sym e) ∙ is in
    rw at refl

pub old_past : (rows : List ℕ) (place : ℕ) → 0 < place → slice_get rows (place - 1) ≡ None → place ≡ old_row rows place
unfolding old_row
old_past rows zero some none = absurd (omega (arith, some))
old_past rows (suc i) some none =
    let e : suc i - 1 ≡ i = omega arith in
    let at : slice_get rows i ≡ None = ap (slice_get rows) (sym e) ∙ none in
    rw at refl

pub old_low : (old new : List ℕ) (i x : ℕ) → AreNewPlaces old new → slice_get old i ≡ Some x → x < 2 ^ 24
old_low old new i x are is =
    let row : is_row_within (length old) x ≡ true = all_at (is_row_within (length old)) old i x are.rows is in
    let few = are.few in
    grind (arith, nat_tests)

-- so what is listed tells where a row goes, and which row comes to a place
pub place_is : (old new : List ℕ) (row : ℕ) → AreNewPlaces old new → 0 < row → unwrap_or (slice_get new (row - 1)) row ≡ place_in_order old row
place_is old new row are some = by (slice_get new (row - 1)) refl
  where
    by : (o : Option ℕ) → slice_get new (row - 1) ≡ o → unwrap_or o row ≡ place_in_order old row
    by None e = past_place old new row are some e
    by (Some x) e = listed_place old new row x are some e

pub old_is : (rows : List ℕ) (place : ℕ) → 0 < place → unwrap_or (slice_get rows (place - 1)) place ≡ old_row rows place
old_is rows place some = by (slice_get rows (place - 1)) refl
  where
    by : (o : Option ℕ) → slice_get rows (place - 1) ≡ o → unwrap_or o place ≡ old_row rows place
    by None e = old_past rows place some e
    by (Some x) e = old_there rows place x some e

pub goes_to : (self old new places : List ℕ) (o : Option ℕ) (row result : ℕ) → old ≡ self → AreNewPlaces old new → places ≡ new → 0 < row
    → o ≡ slice_get places (row - 1) → result ≡ unwrap_or o row → result ≡ place_in_order self row
goes_to self old new places o row result same are there some found is =
    is ∙ ap (λ p. unwrap_or p row) (found ∙ ap (λ xs. slice_get xs (row - 1)) there) ∙ place_is old new row are some ∙ ap (λ xs. place_in_order xs row) same

pub comes_to : (self old rows : List ℕ) (o : Option ℕ) (place result : ℕ) → old ≡ self → rows ≡ old → 0 < place
    → o ≡ slice_get rows (place - 1) → result ≡ unwrap_or o place → result ≡ old_row self place
comes_to self old rows o place result same there some found is =
    is ∙ ap (λ p. unwrap_or p place) (found ∙ ap (λ xs. slice_get xs (place - 1)) (there ∙ same)) ∙ old_is self place some

-- rows and places stay low
pub goes_low : (self old new : List ℕ) (row : ℕ) → old ≡ self → AreNewPlaces old new → row < 2 ^ 24 → place_in_order self row < 2 ^ 24
goes_low self old new row same are low = subst (λ xs. place_in_order xs row < 2 ^ 24) same (new_low old row are.few low)

old_row_low : (old new : List ℕ) (place : ℕ) → AreNewPlaces old new → place < 2 ^ 24 → old_row old place < 2 ^ 24
unfolding old_row
old_row_low old new zero are low = omega arith
old_row_low old new (suc i) are low = by (slice_get old i) refl
  where
    by : (o : Option ℕ) → slice_get old i ≡ o → unwrap_or o (suc i) < 2 ^ 24
    by None e = low
    by (Some x) e = old_low old new i x are e

pub comes_low : (self old new : List ℕ) (place : ℕ) → old ≡ self → AreNewPlaces old new → place < 2 ^ 24 → old_row self place < 2 ^ 24
comes_low self old new place same are low = subst (λ xs. old_row xs place < 2 ^ 24) same (old_row_low old new place are low)

-- what is found for each row
pub are_places : (old new : List ℕ) → length old < 2 ^ 24 → list_all (is_row_within (length old)) old ≡ true
    → ArePlacedFrom 0 (length old) old new → AreNewPlaces old new
unfolding place_in_order
are_places old new few rows placed = record { few = few; rows = rows; count = placed.count; each = placed.each }
