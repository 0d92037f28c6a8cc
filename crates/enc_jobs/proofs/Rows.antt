-- The cells of a row, read column by column.
use Rattle.std.proofs.Common.{◌≡◌, ℕ, ◌+◌, ◌<◌, ◌≤◌, true, false, List, [], ◌∷◌, ◌++◌, inl, inr, length, get_or, drop, map, Option, Some, None, Err, refl, sym, ap, ◌∙◌, arith, append-nil, length-append}
use Rattle.std.proofs.lemmas.List.{drop_all}
use Rattle.std.proofs.lemmas.Option.{slice_get_cases}
use Rattle.std.specs.Prelude.{slice_get, filter}
use Rattle.serde_json.specs.Data.{Data}
use Rattle.enc_schema.specs.declared.column.Column.{Column}
use Rattle.enc_edit_list.specs.Form.{is_stated}
use Rattle.enc_edit_list.specs.declared.edit.Cell.{Cell as CellValue}
use Rattle.enc_jobs.specs.declared.fault.Refused.{Refused}
use Rattle.enc_jobs.specs.declared.fault.Refused.TheVariants.{Memory, Form}
use Rattle.enc_jobs.specs.Outcome.{ReadsAs}
use Rattle.enc_jobs.specs.Lists.{with_first}
use Rattle.enc_jobs.specs.Cell.{cell_said, cells_said}
use Rattle.enc_jobs.proofs.Loops.{behind, behind_none_yet, behind_one_more, front, front_at}

-- what the columns from an index on say of the values from another on
abbrev pub left : {V : Type 0} → (V → Data) → List Column → List V → ℕ → ℕ → Option (List CellValue)
left v columns items i k = cells_said (filter is_stated (drop i columns)) (map v (drop k items))

-- all columns of all values
abbrev pub all : {V : Type 0} → (V → Data) → List Column → List V → Option (List CellValue)
all v columns items = cells_said (filter is_stated columns) (map v items)

stated : (c : Column) (cs : List Column) → is_stated c ≡ true → filter is_stated (c ∷ cs) ≡ c ∷ filter is_stated cs
stated c cs is = rw is refl

unstated : (c : Column) (cs : List Column) → is_stated c ≡ false → filter is_stated (c ∷ cs) ≡ filter is_stated cs
unstated c cs is = rw is refl

one_cell : (c : Column) (cs : List Column) (d : Data) (ds : List Data) → cells_said (c ∷ cs) (d ∷ ds) ≡ with_first (cell_said c d) (cells_said cs ds)
unfolding cells_said
one_cell c cs d ds = refl

too_few : (c : Column) (cs : List Column) → cells_said (c ∷ cs) [] ≡ None
unfolding cells_said
too_few c cs = refl

too_many : (d : Data) (ds : List Data) → cells_said [] (d ∷ ds) ≡ None
unfolding cells_said
too_many d ds = refl

no_more : cells_said [] [] ≡ Some []
unfolding cells_said
no_more = refl

-- nothing is read yet
pub cells_start : {V : Type 0} (v : V → Data) (columns : List Column) (items : List V) → behind [] (left v columns items 0 0) ≡ all v columns items
cells_start v columns items = behind_none_yet (all v columns items)

-- a run
pub cells_skip : {V : Type 0} (v : V → Data) (columns : List Column) (items : List V) (i k : ℕ) (c : Column) → slice_get columns i ≡ Some c → is_stated c ≡ false → left v columns items i k ≡ left v columns items (i + 1) k
cells_skip v columns items i k c at is = rw (front_at columns i c at, unstated c (drop (i + 1) columns) is) refl

-- a cell more
one_more : {V : Type 0} (v : V → Data) (columns : List Column) (items : List V) (i k : ℕ) (c : Column) (d : V) (x : CellValue) (cells : List CellValue) → slice_get columns i ≡ Some c → is_stated c ≡ true → k < length items → d ≡ get_or items k d → cell_said c (v d) ≡ Some x → behind cells (left v columns items i k) ≡ behind (cells ++ x ∷ []) (left v columns items (i + 1) (k + 1))
one_more v columns items i k c d x cells at is h there said =
    rw (front_at columns i c at, stated c (drop (i + 1) columns) is, front items k d h there, one_cell c (filter is_stated (drop (i + 1) columns)) (v d) (map v (drop (k + 1) items)), said)
    (behind_one_more cells x (left v columns items (i + 1) (k + 1)))

pub cells_more : {V : Type 0} (v : V → Data) (columns : List Column) (items : List V) (i : ℕ) (c : Column) (d : V) (x : CellValue) (cells : List CellValue) → slice_get columns i ≡ Some c → is_stated c ≡ true → length cells < length items → d ≡ get_or items (length cells) d → cell_said c (v d) ≡ Some x → behind cells (left v columns items i (length cells)) ≡ behind (cells ++ x ∷ []) (left v columns items (i + 1) (length (cells ++ x ∷ [])))
cells_more v columns items i c d x cells at is h there said =
    let e : length (cells ++ x ∷ []) ≡ length cells + 1 = omega (arith, length-append cells (x ∷ [])) in
    rw e (one_more v columns items i (length cells) c d x cells at is h there said)

-- a column without a value
ended : {V : Type 0} (v : V → Data) (xs : List V) (k : ℕ) → length xs ≤ k → map v (drop k xs) ≡ []
ended v xs k h = rw (drop_all k xs h) refl

pub cells_short : {V : Type 0} (v : V → Data) (columns : List Column) (items : List V) (i : ℕ) (c : Column) (cells : List CellValue) → slice_get columns i ≡ Some c → is_stated c ≡ true → length items ≤ length cells → behind cells (left v columns items i (length cells)) ≡ all v columns items → all v columns items ≡ None
cells_short v columns items i c cells at is none whole =
    sym whole ∙ rw (front_at columns i c at, stated c (drop (i + 1) columns) is, ended v items (length cells) none, too_few c (filter is_stated (drop (i + 1) columns))) refl

-- a value that is no cell of its column
pub cells_refused : {V : Type 0} (v : V → Data) (columns : List Column) (items : List V) (i : ℕ) (c : Column) (d : V) (cells : List CellValue) (e : Refused) → slice_get columns i ≡ Some c → is_stated c ≡ true → length cells < length items → d ≡ get_or items (length cells) d → ReadsAs (Err e) (cell_said c (v d)) → behind cells (left v columns items i (length cells)) ≡ all v columns items → ReadsAs {A = List CellValue} (Err e) (all v columns items)
cells_refused v columns items i c d cells Memory at is h there said whole = tt
cells_refused v columns items i c d cells Form at is h there said whole =
    sym whole ∙ rw (front_at columns i c at, stated c (drop (i + 1) columns) is, front items (length cells) d h there, one_cell c (filter is_stated (drop (i + 1) columns)) (v d) (map v (drop (length cells + 1) items)), said) refl

-- no column is left, and values are
pub cells_long : {V : Type 0} (v : V → Data) (columns : List Column) (items : List V) (i : ℕ) (cells : List CellValue) → length columns ≤ i → length cells < length items → behind cells (left v columns items i (length cells)) ≡ all v columns items → all v columns items ≡ None
cells_long v columns items i cells past h whole =
    elim (slice_get_cases items (length cells)).1 [
      | inl w ↦ sym whole ∙ rw (drop_all i columns past, front_at items (length cells) w.0 w.2, too_many (v w.0) (map v (drop (length cells + 1) items))) refl
      | inr w ↦ absurd (omega (arith, w.0))
    ]

-- neither is left
pub cells_done : {V : Type 0} (v : V → Data) (columns : List Column) (items : List V) (i : ℕ) (cells : List CellValue) → length columns ≤ i → length items ≤ length cells → behind cells (left v columns items i (length cells)) ≡ all v columns items → all v columns items ≡ Some cells
cells_done v columns items i cells past h whole = sym whole ∙ rw (drop_all i columns past, drop_all (length cells) items h, no_more) (ap Some (append-nil cells))

pub ruleset cell_steps = (cells_start, cells_skip, cells_more, cells_short, cells_refused, cells_long, cells_done)
