-- For the contracts of private functions: the numbers of rows that are written.
use Rattle.std.specs.Prelude.{◌≡◌, ℕ, ◌≤◌, true, List, length, map, filter, Some, slice_get}
use Rattle.std.specs.List.{list_all}
use Rattle.std.specs.BTreeMap.{BTreeMap}
use Rattle.enc_base.specs.Token.{nth_row}
use Rattle.enc_base.specs.declared.token.Token.{Token}
use Rattle.enc_meta.specs.Built.{Built}
use Rattle.enc_meta.specs.BuiltLaws.{heaps_joined}
use Rattle.enc_meta.specs.Heaps.{Counted}
use Rattle.enc_meta.specs.Joined.{joined_user}
use Rattle.enc_plain.specs.Cell.{is_body}
use Rattle.enc_plain.specs.Chain.{Chain}
use Rattle.enc_plain.specs.Sound.{number_fits}
use Rattle.enc_rows.specs.Sums.{below}
use Rattle.enc_rules.specs.Listed.{count_after}
use Rattle.enc_schema.specs.Schema.{columns_in, column_in}
use Rattle.enc_schema.specs.declared.column.Column.{Column}
use Rattle.enc_edit_list.specs.declared.edit.EditList.{EditList}
use Rattle.enc_list_delta.specs.Delta.{is_edited, cells_written}
use Rattle.enc_list_delta.specs.Holds.{MayFollow, heaps_written, reading_with, SaysCell, PlacesBody, SayRows}
use Rattle.enc_writer.specs.Writing.{MethodsPlaced, row_fits_wide}

-- the joined heaps with those of the delta
abbrev pub joined_with : Chain → EditList → List Counted
joined_with c l = heaps_joined c.heaps (heaps_written c l)

-- what the numbers of rows are found by
pub record AreRowsReady (c : Chain) (l : EditList) (h : Built) (il : List ℕ) (methods : BTreeMap ℕ ℕ) : Type 0 where
  pub may : MayFollow c l
  pub heaps : h ≡ heaps_written c l
  pub bodies : MethodsPlaced c l (joined_with c l) il methods

-- a number says the cell that the edits give the column, whatever the code is, and fits the column
pub record SaysPlain (c : Chain) (l : EditList) (u : Token) (i : ℕ) (column : Column) (x : ℕ) : Type 0 where
  pub says : (il : List ℕ) → SaysCell (reading_with c l (joined_with c l) il) u i column x
      (slice_get (cells_written c.plain l.edits u) i)
  pub fit : number_fits column x ≡ true

-- a number says the cell that the edits give the column, in the column of a body the place of that, and fits the column
pub record SaysNumber (c : Chain) (l : EditList) (il : List ℕ) (u : Token) (i : ℕ) (column : Column)
    (x : ℕ) : Type 0 where
  pub says : SaysCell (reading_with c l (joined_with c l) il) u i column x
      (slice_get (cells_written c.plain l.edits u) i)
  pub body : is_body u.table i ≡ true → PlacesBody (count_after c l.edits) (joined_user (joined_with c l)) il x
      (slice_get (cells_written c.plain l.edits u) i)
  pub fit : number_fits column x ≡ true

-- so do the first so many numbers of a row, and all of them, one for each column
pub record DeltaFrontSays (c : Chain) (l : EditList) (il : List ℕ) (u : Token) (many : ℕ)
    (numbers : List ℕ) : Type 0 where
  pub count : length numbers ≡ many
  pub each : (i : ℕ) (column : Column) (x : ℕ) → column_in u.table i ≡ Some column → slice_get numbers i ≡ Some x
      → SaysNumber c l il u i column x

abbrev pub DeltaRowSays : Chain → EditList → List ℕ → Token → List ℕ → Type 0
DeltaRowSays c l il u numbers = DeltaFrontSays c l il u (length (columns_in u.table)) numbers

-- the edited rows among the first so many of a table
abbrev pub edited_below : Chain → EditList → ℕ → ℕ → List Token
edited_below c l table n = filter (is_edited c.plain l.edits) (map (nth_row table) (below n))

-- these rows are written
pub record RowsWritten (c : Chain) (l : EditList) (il : List ℕ) (table n : ℕ) (rows : List (List ℕ)) : Type 0 where
  pub say : SayRows c l (joined_with c l) il (edited_below c l table n) rows
  pub fit : list_all (row_fits_wide (columns_in table)) rows ≡ true
  pub few : length rows ≤ n
