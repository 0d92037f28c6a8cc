-- How long cells, rows and tables are, where a cell stands in its row and a row in its table, and that its number is read there.
use Rattle.std.proofs.Common.{◌≡◌, ℕ, zero, suc, ◌+◌, ◌*◌, ◌^◌, ◌<◌, ◌⊎◌, Bool, true, false, inl, inr, List, [], ◌∷◌, length, take, refl, ap, ◌∙◌, arith, length-append}
use Rattle.std.specs.Prelude.{Option, Some, option_map, slice_get, flat_map, sum_by, IsTrue, if◌then◌else◌, ◌==◌}
use Rattle.std.specs.List.{list_all}
use Rattle.std.specs.Int.{w16, w32, to_le_bytes}
use Rattle.std.proofs.Math.Nat.{add-mul}
use Rattle.std.proofs.lemmas.Bool.{and_parts, eqb-true, ltb-true}
use Rattle.std.proofs.lemmas.Option.{same_Some}
use Rattle.std.proofs.lemmas.List.Sums.{sum_by-cons}
use Rattle.enc_schema.specs.declared.column.Column.{Column}
use Rattle.enc_schema.specs.declared.column.Column.TheVariants.{Num8, Num16, Num32, Text, Guid, Blob, Index, Coded, Run}
use Rattle.enc_schema.specs.Widths.{Shape, narrow, heap_width, index_width, width_of, space_of}
use Rattle.enc_schema.proofs.Kept.{coded_size}
use Rattle.enc_rows.specs.Layout.{number_of_width}
use Rattle.enc_rows.specs.Written.{cell_bytes, row_bytes, has_cells, fits}
use Rattle.enc_rows.proofs.Stands.{StandsAt, at_front, moved, more_before, one_there, two_there, four_there}

-- a number of one byte takes two; the others take what they have, two or four
abbrev pub Sizes : ℕ → ℕ → Type 0
Sizes width space = ((width ≡ 1) × (space ≡ 2)) ⊎ (((width ≡ 2) × (space ≡ 2)) ⊎ ((width ≡ 4) × (space ≡ 4)))

abbrev TwoOrFour : ℕ → Type 0
TwoOrFour n = (n ≡ 2) ⊎ (n ≡ 4)

same_size : (n : ℕ) → TwoOrFour n → Sizes n n
same_size n (inl e) = inr (inl (e, e))
same_size n (inr e) = inr (inr (e, e))

by_bit : (b : Bool) → TwoOrFour (if b then 4 else 2)
by_bit true = inr refl
by_bit false = inl refl

heap_size : (s : Shape) (bit : ℕ) → TwoOrFour (heap_width s bit)
unfolding heap_width
heap_size s bit = by_bit _

by_count : (jtd few : Bool) → TwoOrFour (if jtd then 4 else narrow few)
by_count true few = inr refl
by_count false true = inl refl
by_count false false = inr refl

index_size : (s : Shape) (t : ℕ) → TwoOrFour (index_width s t)
unfolding index_width
index_size s t = by_count s.jtd _

pub sizes : (s : Shape) (c : Column) → Sizes (width_of s c) (space_of s c)
sizes s Num8 = inl (refl, refl)
sizes s Num16 = inr (inl (refl, refl))
sizes s Num32 = inr (inr (refl, refl))
sizes s Text = same_size _ (heap_size s 1)
sizes s Guid = same_size _ (heap_size s 2)
sizes s Blob = same_size _ (heap_size s 4)
sizes s (Index t) = same_size _ (index_size s t)
sizes s (Coded kind) = same_size _ (coded_size s kind)
sizes s (Run t) = same_size _ (index_size s t)

-- a number in this many bytes
abbrev in_space : ℕ → ℕ → List ℕ
in_space space n = if space == 4 then to_le_bytes w32 n else to_le_bytes w16 n

in_space_length : (width space n : ℕ) → Sizes width space → length (in_space space n) ≡ space
in_space_length width space n (inl e) = rw e.1 refl
in_space_length width space n (inr (inl e)) = rw e.1 refl
in_space_length width space n (inr (inr e)) = rw e.1 refl

in_space_read : (width space n : ℕ) (stream : List ℕ) (at : ℕ) → Sizes width space → n < 2 ^ (8 * width) → StandsAt (in_space space n) stream at → number_of_width width stream at ≡ Some n
in_space_read width space n stream at (inl e) fits s = rw e.0 (one_there n stream at (rw e.0 at fits) (rw e.1 at s))
in_space_read width space n stream at (inr (inl e)) fits s = rw e.0 (ap (λ (o : Option ℕ). option_map (λ (k : ℕ). k) o) (two_there n stream at (rw e.0 at fits) (rw e.1 at s)))
in_space_read width space n stream at (inr (inr e)) fits s = rw e.0 (four_there n stream at (rw e.0 at fits) (rw e.1 at s))

pub cell_length : (s : Shape) (c : Column) (n : ℕ) → length (cell_bytes s c n) ≡ space_of s c
unfolding cell_bytes
cell_length s c n = in_space_length (width_of s c) (space_of s c) n (sizes s c)

-- a number that fits is read where its bytes stand
pub cell_read : (s : Shape) (c : Column) (n : ℕ) (stream : List ℕ) (at : ℕ) → IsTrue (fits s c n) → StandsAt (cell_bytes s c n) stream at → number_of_width (width_of s c) stream at ≡ Some n
unfolding cell_bytes fits
cell_read s c n stream at fit there = in_space_read (width_of s c) (space_of s c) n stream at (sizes s c) (ltb-true _ _ fit) there

-- a row is as long as its columns
pub row_length : (s : Shape) (columns : List Column) (cells : List ℕ) → length cells ≡ length columns → length (row_bytes s columns cells) ≡ sum_by (space_of s) columns
unfolding row_bytes
row_length s [] [] len = refl
row_length s [] (n ∷ cells) len = absurd (omega arith)
row_length s (c ∷ columns) [] len = absurd (omega arith)
row_length s (c ∷ columns) (n ∷ cells) len =
    length-append (cell_bytes s c n) (row_bytes s columns cells) ∙ omega (arith, cell_length s c n, row_length s columns cells (omega arith), sum_by-cons (space_of s) c columns)

-- and a cell stands behind those before it
pub cell_stands : (s : Shape) (columns : List Column) (cells : List ℕ) (i : ℕ) (c : Column) (n : ℕ) → slice_get columns i ≡ Some c → slice_get cells i ≡ Some n → StandsAt (cell_bytes s c n) (row_bytes s columns cells) (sum_by (space_of s) (take i columns))
unfolding row_bytes
cell_stands s [] cells i c n column cell = absurd (cc)
cell_stands s (x ∷ columns) [] i c n column cell = absurd (cc)
cell_stands s (x ∷ columns) (y ∷ cells) zero c n column cell = rw (same_Some x c column, same_Some y n cell) (at_front (cell_bytes s c n) (row_bytes s columns cells))
cell_stands s (x ∷ columns) (y ∷ cells) (suc i) c n column cell =
    moved _ _ _ _ (more_before (cell_bytes s c n) (row_bytes s columns cells) (cell_bytes s x y) _ (cell_stands s columns cells i c n column cell)) (omega (arith, cell_length s x y, sum_by-cons (space_of s) x (take i columns)))

times_suc : (n w : ℕ) → suc n * w ≡ w + n * w
times_suc n w = let e : suc n ≡ n + 1 = omega arith in rw e (add-mul n 1 w ∙ omega arith)

-- rows with a number for each column are as long as so many rows
pub rows_length : (s : Shape) (columns : List Column) (rows : List (List ℕ)) → IsTrue (list_all (has_cells columns) rows) → length (flat_map (row_bytes s columns) rows) ≡ length rows * sum_by (space_of s) columns
rows_length s columns [] all = omega arith
rows_length s columns (row ∷ rows) all =
    let each = and_parts (has_cells columns row) (list_all (has_cells columns) rows) all in
    length-append (row_bytes s columns row) (flat_map (row_bytes s columns) rows) ∙ omega (arith, row_length s columns row (eqb-true _ _ each.0), rows_length s columns rows each.1, times_suc (length rows) (sum_by (space_of s) columns))

-- and each stands behind those before it
pub row_stands : (s : Shape) (columns : List Column) (rows : List (List ℕ)) (n : ℕ) (cells : List ℕ) → IsTrue (list_all (has_cells columns) rows) → slice_get rows n ≡ Some cells → StandsAt (row_bytes s columns cells) (flat_map (row_bytes s columns) rows) (n * sum_by (space_of s) columns)
row_stands s columns [] n cells all row = absurd (cc)
row_stands s columns (x ∷ rows) zero cells all row =
    rw (same_Some x cells row) (moved _ _ 0 _ (at_front (row_bytes s columns cells) (flat_map (row_bytes s columns) rows)) (omega arith))
row_stands s columns (x ∷ rows) (suc n) cells all row =
    let each = and_parts (has_cells columns x) (list_all (has_cells columns) rows) all in
    moved _ _ _ _ (more_before (row_bytes s columns cells) (flat_map (row_bytes s columns) rows) (row_bytes s columns x) _ (row_stands s columns rows n cells each.1 row)) (omega (arith, row_length s columns x (eqb-true _ _ each.0), times_suc n (sum_by (space_of s) columns)))
