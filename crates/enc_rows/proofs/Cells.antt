-- The bytes of cells and rows.
use Rattle.std.proofs.Common.{◌≡◌, ℕ, zero, suc, ◌+◌, ◌*◌, ◌^◌, ◌<◌, ◌≤◌, ◌⊎◌, Bool, true, inl, inr, List, [], ◌∷◌, ◌++◌, length, drop, get_or, refl, sym, ap, ◌∙◌, arith, append_assoc}
use Rattle.std.specs.Prelude.{IsTrue, Some, slice_get}
use Rattle.std.specs.List.{list_all}
use Rattle.std.proofs.lemmas.Bool.{ltb-true, and_parts}
use Rattle.std.proofs.lemmas.Option.{same_Some}
use Rattle.std.proofs.lemmas.List.{append-nil, drop_all}
use Rattle.std.proofs.lemmas.List.Sums.{AllPass-from_list_all}
use Rattle.std.proofs.lemmas.List.Elements.{All-get_or}
use Rattle.enc_schema.specs.declared.column.Column.{Column}
use Rattle.enc_schema.specs.Widths.{Shape, width_of}
use Rattle.enc_rows.specs.Written.{cell_bytes, row_bytes, fits, row_fits}

-- a number of one or two bytes fits two
below_two : (w n : ℕ) → (w ≡ 1) ⊎ ((w ≡ 2) ⊎ (w ≡ 4)) → (w ≡ 4 → ⊥) → n < 2 ^ (8 * w) → n < 2 ^ 16
below_two w n (inl e) other h = let lt : n < 2 ^ 8 = rw e at h in omega arith
below_two w n (inr (inl e)) other h = rw e at h
below_two w n (inr (inr e)) other h = absurd (other e)

pub fits_two : (s : Shape) (c : Column) (w n : ℕ) → w ≡ width_of s c → (w ≡ 1) ⊎ ((w ≡ 2) ⊎ (w ≡ 4)) → (w ≡ 4 → ⊥) → IsTrue (fits s c n) → n < 2 ^ 16
unfolding fits
fits_two s c w n is size other h = below_two w n size other (rw is (ltb-true n (2 ^ (8 * width_of s c)) h))

-- what is made of columns and cells, one by one: from a place on, of the column and the cell there and of those behind them
pub from_place : {B : Type 0} (with : Column → ℕ → B → B) (all : List Column → List ℕ → B) → ((c : Column) (n : ℕ) (columns : List Column) (cells : List ℕ) → all (c ∷ columns) (n ∷ cells) ≡ with c n (all columns cells)) → (columns : List Column) (cells : List ℕ) (i : ℕ) (c : Column) (n : ℕ) → slice_get columns i ≡ Some c → slice_get cells i ≡ Some n → all (drop i columns) (drop i cells) ≡ with c n (all (drop (i + 1) columns) (drop (i + 1) cells))
from_place with all more [] cells i c n column cell = absurd (cc)
from_place with all more (x ∷ columns) [] i c n column cell = absurd (cc)
from_place with all more (x ∷ columns) (y ∷ cells) zero c n column cell = rw (same_Some x c column, same_Some y n cell) (more c n columns cells)
from_place with all more (x ∷ columns) (y ∷ cells) (suc i) c n column cell =
    let e : suc i + 1 ≡ suc (i + 1) = omega arith in
    rw e (from_place with all more columns cells i c n column cell)

-- the bytes of the row from a column on are its own and those of the columns behind it
pub row_from : (s : Shape) (columns : List Column) (cells : List ℕ) (i : ℕ) (c : Column) (n : ℕ) → slice_get columns i ≡ Some c → slice_get cells i ≡ Some n → row_bytes s (drop i columns) (drop i cells) ≡ cell_bytes s c n ++ row_bytes s (drop (i + 1) columns) (drop (i + 1) cells)
unfolding row_bytes
row_from s = from_place (λ c n rest. cell_bytes s c n ++ rest) (row_bytes s) (λ c n columns cells. refl)

-- one cell more is written
pub row_more : (s : Shape) (columns : List Column) (cells : List ℕ) (i : ℕ) (c : Column) (n : ℕ) (out new : List ℕ) → slice_get columns i ≡ Some c → slice_get cells i ≡ Some n → new ≡ out ++ cell_bytes s c n → new ++ row_bytes s (drop (i + 1) columns) (drop (i + 1) cells) ≡ out ++ row_bytes s (drop i columns) (drop i cells)
row_more s columns cells i c n out new column cell is =
    ap (λ xs. xs ++ row_bytes s (drop (i + 1) columns) (drop (i + 1) cells)) is ∙ append_assoc out (cell_bytes s c n) (row_bytes s (drop (i + 1) columns) (drop (i + 1) cells)) ∙ ap (λ xs. out ++ xs) (sym (row_from s columns cells i c n column cell))

row_none : (s : Shape) → row_bytes s [] [] ≡ []
unfolding row_bytes
row_none s = refl

-- and then none
pub row_all : (s : Shape) (columns : List Column) (cells : List ℕ) (i : ℕ) (out : List ℕ) → length columns ≤ i → length cells ≤ i → out ++ row_bytes s (drop i columns) (drop i cells) ≡ out
row_all s columns cells i out a b = rw (drop_all i columns a, drop_all i cells b, row_none s) (append-nil out)

-- each number of a row that fits, fits
pub cell_fits : (s : Shape) (columns : List Column) (cells : List ℕ) (i : ℕ) (c : Column) (n : ℕ) → IsTrue (row_fits s columns cells) → slice_get columns i ≡ Some c → slice_get cells i ≡ Some n → IsTrue (fits s c n)
unfolding row_fits
cell_fits s [] cells i c n h column cell = absurd (cc)
cell_fits s (x ∷ columns) [] i c n h column cell = absurd (cc)
cell_fits s (x ∷ columns) (y ∷ cells) zero c n h column cell =
    let one = (and_parts (fits s x y) (row_fits s columns cells) h).0 in
    rw (same_Some x c column, same_Some y n cell) at one
cell_fits s (x ∷ columns) (y ∷ cells) (suc i) c n h column cell = cell_fits s columns cells i c n (and_parts (fits s x y) (row_fits s columns cells) h).1 column cell

-- and it has as many as there are columns
pub fits_length : (s : Shape) (columns : List Column) (cells : List ℕ) → IsTrue (row_fits s columns cells) → length cells ≡ length columns
unfolding row_fits
fits_length s [] [] h = refl
fits_length s [] (y ∷ cells) h = absurd (cc)
fits_length s (x ∷ columns) [] h = absurd (cc)
fits_length s (x ∷ columns) (y ∷ cells) h = ap suc (fits_length s columns cells (and_parts (fits s x y) (row_fits s columns cells) h).1)

-- what holds of all items holds of the one at a place
pub all_item : {A : Type 0} (p : A → Bool) (xs : List A) (i : ℕ) (x : A) → IsTrue (list_all p xs) → i < length xs → x ≡ get_or xs i x → IsTrue (p x)
all_item p xs i x all lt is =
    let at : p (get_or xs i x) ≡ true = All-get_or (λ y. p y ≡ true) xs i x lt (AllPass-from_list_all p xs all) in
    rw (← is) at at
