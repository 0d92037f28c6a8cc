-- What a base's module tells in its columns, as the file's numbers stand for it.
use Rattle.std.proofs.Common.{◌≡◌, ℕ, ◌-◌, ◌<◌, ◌≤◌, Bool, true, List, [], ◌∷◌, Option, Some, None, refl, sym, ◌∙◌, inl, inr, arith}
use Rattle.std.specs.Prelude.{◌&&◌, MatchOption, IsTrue, unwrap_or, nat_le, nat_lt, slice_get}
use Rattle.std.proofs.lemmas.Bool.{cases_lt, and_parts}
use Rattle.std.proofs.lemmas.Bool.Decides.{nat_tests}
use Rattle.enc_base.specs.Token.{nth_row}
use Rattle.enc_base.specs.declared.token.Token.{Token}
use Rattle.enc_schema.specs.declared.column.Column.{Column}
use Rattle.enc_schema.specs.declared.column.Column.TheVariants.{Index}
use Rattle.enc_schema.specs.Schema.{column_in}
use Rattle.enc_meta.specs.Heaps.{blob_at}
use Rattle.enc_rows.specs.Layout.{rows_of}
use Rattle.enc_rows.specs.Source.{Source, raw_in}
use Rattle.enc_opcodes.proofs.Sounds.{Grow}
use Rattle.enc_plain.specs.Cell.{Cell, number, blob, numbers, blobs, references, kind_in, cell_count}
use Rattle.enc_plain.specs.Module.{has_row, cells_of, cell_of}
use Rattle.enc_plain.specs.Reading.{index_token, cell_with}
use Rattle.enc_plain.specs.Rows.{number_at, bytes_at, token_at}
use Rattle.enc_plain.specs.Sound.{is_part, row_count}
use Rattle.enc_plain.proofs.CellsOf.{number_there, blob_there, token_there}
use Rattle.enc_plain.proofs.SignatureRows.{TypesGrow}
use Rattle.enc_plain.proofs.Columns.{each_of}
use Rattle.enc_image.specs.Base.{reading_of, blob_or_none, cells_fault, cell_in, row_in, module_in}
use Rattle.enc_rows.proofs.Listed.{get_below, get_past}
use Rattle.enc_image.proofs.Rows.{row_stands, token_is, row_there, count_there, number_cell, blob_cell, index_cell}

-- a row of the tables is one of the module
pub row_is_there : (s : Source) (u : Token) → u.table < 0x2D → is_part u.table ≡ true → 0 < u.row → u.row ≤ rows_of s.layout u.table → has_row (module_in s) u ≡ true
unfolding has_row
row_is_there s u low part some high = rw (count_there s u.table low part) (both (rows_of s.layout u.table) u.row some high)
  where
    both : (n row : ℕ) → 0 < row → row ≤ n → (nat_lt 0 row && nat_le row n) ≡ true
    both n row some high = grind (arith, nat_tests)

-- a cell that stands in a row is what its number stands for
in_row : (s : Source) (table n i : ℕ) (c : Cell) → slice_get (row_in s table n).cells i ≡ Some c → c ≡ unwrap_or (cell_in s (nth_row table n) i) (number 0)
in_row s table n i c e =
    elim (cases_lt i (cell_count table)) [
      | inl low ↦ same _ _ (sym (get_below (λ (k : ℕ). unwrap_or (cell_in s (nth_row table n) k) (number 0)) (cell_count table) i low) ∙ e)
      | inr past ↦ let none = sym (get_past (λ (k : ℕ). unwrap_or (cell_in s (nth_row table n) k) (number 0)) (cell_count table) i past) ∙ e in absurd cc
    ]
  where
    same : (x y : Cell) → Some x ≡ Some y → y ≡ x
    same x y h = cc

pub cell_is : (s : Source) (u : Token) (i : ℕ) (column : Column) (c : Cell) → IsTrue (has_row (module_in s) u) → column_in u.table i ≡ Some column → cell_of (module_in s) u i ≡ Some c → c ≡ unwrap_or (cell_with (reading_of s) u i column (raw_in s u i)) (number 0)
unfolding cell_of cell_in
cell_is s u i column c there e is =
    let row = row_stands s u there in
    let at : slice_get (row_in s u.table (u.row - 1)).cells i ≡ Some c = rw (row_there s u there) at is in
    let made = in_row s u.table (u.row - 1) i c at in
    rw (token_is u row.low, e) at made

-- the number, the blob and the token of a column
pub number_is : (s : Source) (u : Token) (i : ℕ) → IsTrue (has_row (module_in s) u) → kind_in u.table i ≡ Some numbers → number_at (cells_of (module_in s)) u i ≡ raw_in s u i
number_is s u i there kind = sym (number_there (module_in s) u i (raw_in s u i) (number_cell s u i (raw_in s u i) there kind refl))

blob_by : (s : Source) (u : Token) (i : ℕ) (x : Option (List ℕ)) → MatchOption x ⊥ (λ a. cell_of (module_in s) u i ≡ Some (blob a)) → bytes_at (cells_of (module_in s)) u i ≡ unwrap_or x []
blob_by s u i (Some a) h = sym (blob_there (module_in s) u i a h)
blob_by s u i None h = absurd h

pub blob_is : (s : Source) (u : Token) (i : ℕ) → cells_fault s ≡ None → IsTrue (has_row (module_in s) u) → kind_in u.table i ≡ Some blobs → bytes_at (cells_of (module_in s)) u i ≡ blob_or_none s (raw_in s u i)
blob_is s u i sound there kind = blob_by s u i (blob_at s.heaps.blobs (raw_in s u i)) (blob_cell s u i (raw_in s u i) sound there kind refl)

pub index_is : (s : Source) (u : Token) (i table : ℕ) → cells_fault s ≡ None → IsTrue (has_row (module_in s) u) → kind_in u.table i ≡ Some references → column_in u.table i ≡ Some (Index table) → token_at (cells_of (module_in s)) u i ≡ index_token table (raw_in s u i)
index_is s u i table sound there kind column = sym (token_there (module_in s) u i (index_token table (raw_in s u i)) (index_cell s u i (raw_in s u i) table sound there kind column refl))

-- the tables that code names are parts, with all their rows
abbrev in_module : ℕ → Bool
in_module t = is_part t && nat_lt t 0x2D

same_count : (s : Source) (t : ℕ) → in_module t ≡ true → rows_of s.layout t ≡ row_count (module_in s) t
same_count s t h =
    let a = and_parts (is_part t) (nat_lt t 0x2D) h in
    let low : t < 0x2D = grind (arith, nat_tests) in
    sym (count_there s t low a.0)

le_same : (a b : ℕ) → a ≡ b → a ≤ b
le_same a b h = omega arith

pub code_tables : (s : Source) → Grow (rows_of s.layout) (row_count (module_in s))
code_tables s = record { each = λ t h. le_same _ _ (same_count s t (each_of in_module (0x01 ∷ 0x02 ∷ 0x04 ∷ 0x06 ∷ 0x0A ∷ 0x11 ∷ 0x1B ∷ 0x2B ∷ []) t refl h)) }

pub type_tables : (s : Source) → TypesGrow (rows_of s.layout) (row_count (module_in s))
type_tables s = record { definitions = le_same _ _ (same_count s 0x02 refl); references = le_same _ _ (same_count s 0x01 refl); specifications = le_same _ _ (same_count s 0x1B refl) }
