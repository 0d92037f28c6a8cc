-- The cells that edits give a row, by what the list with its chain tells of the row.
use Rattle.std.proofs.Common.{◌≡◌, ℕ, true, List, Option, Some, None, refl, sym, ap, ◌∙◌}
use Rattle.std.specs.Prelude.{option_map, option_and_then, is_some, slice_get}
use Rattle.enc_base.specs.declared.token.Token.{Token}
use Rattle.enc_plain.specs.Cell.{Cell, number, text, blob, guid, refer, body, field, Kind, numbers, texts, blobs, references, bodies, kind_in, cell_kind}
use Rattle.enc_plain.specs.Chain.{Chain}
use Rattle.enc_plain.specs.Module.{Module, has_row, cells_of, cell_of}
use Rattle.enc_plain.specs.Rows.{number_at, bytes_at, token_at}
use Rattle.enc_plain.specs.Sound.{IsSound, cell_is_sound, row_count}
use Rattle.enc_plain.proofs.CellsOf.{number_there, text_there, blob_there, token_there}
use Rattle.enc_agg.proofs.Viewing.{has_is}
use Rattle.enc_edit_list.specs.declared.edit.EditList.{EditList}
use Rattle.enc_rules.specs.Edited.{edited}
use Rattle.enc_rules.specs.Listed.{rows_listed, count_after}
use Rattle.enc_memory_module.proofs.CellCases.{cell_of_cells}
use Rattle.enc_memory_module.proofs.Grown.{count_is}
use Rattle.enc_memory_module.proofs.Unbroken.{BreakNothing}
use Rattle.enc_schema.specs.Schema.{column_in}
use Rattle.enc_schema.specs.declared.column.Column.{Column}
use Rattle.enc_list_delta.specs.Delta.{is_edited, cells_written}
use Rattle.enc_list_delta.specs.Holds.{MayFollow}
use Rattle.enc_list_delta.proofs.CellsRead.{sound_edited, edited_row}
use Rattle.enc_list_delta.proofs.RowsSeen.{AreSeenAlike, listed_seen}
use Rattle.enc_list_delta.proofs.SameRows.{same_function}
use Rattle.enc_list_delta.proofs.TokensUnbroken.{nothing_breaks}

-- the module with all edits
abbrev pub after : Chain → EditList → Module
after c l = edited c.plain l.edits

-- the cell that the edits give a row's column
abbrev pub stated_at : Chain → EditList → Token → ℕ → Option Cell
stated_at c l u i = slice_get (cells_written c.plain l.edits u) i

-- a row that edits are about is one of the module with all edits, with those cells
pub record IsStated (c : Chain) (l : EditList) (u : Token) : Type 0 where
  pub none : BreakNothing c l
  pub sound : IsSound (after c l)
  pub seen : AreSeenAlike (cells_of (after c l)) (rows_listed c l.edits)
  pub row : has_row (after c l) u ≡ true
  pub cell : (i : ℕ) → cell_of (after c l) u i ≡ stated_at c l u i
  pub counts : row_count (after c l) ≡ count_after c l.edits

pub is_stated : (c : Chain) (l : EditList) (u : Token) → MayFollow c l → is_edited c.plain l.edits u ≡ true → IsStated c l u
is_stated c l u may about =
    let none = nothing_breaks c l may in
    let row = edited_row c l u may none about in
    record {
      none = none;
      sound = sound_edited c l may;
      seen = listed_seen c l may none;
      row = has_is (after c l) u ∙ ap is_some row;
      cell = λ i. cell_of_cells (after c l) u i ∙ ap (option_and_then (λ (cells : List Cell). slice_get cells i)) row;
      counts = same_function (row_count (after c l)) (count_after c l.edits) (λ t. count_is c l t may.sound.owners.tables none);
    }

some_of : (o : Option Cell) (k : Kind) → option_map cell_kind o ≡ Some k → (x : Cell) × ((o ≡ Some x) × (cell_kind x ≡ k))
some_of (Some x) k h = (x, (refl, cc))
some_of None k h = absurd cc

-- the cell of a column that has a kind
cell_there : (c : Chain) (l : EditList) (u : Token) (i : ℕ) (k : Kind) → IsStated c l u → kind_in u.table i ≡ Some k → (x : Cell) × ((cell_of (after c l) u i ≡ Some x) × (cell_kind x ≡ k))
cell_there c l u i k s kind = some_of (cell_of (after c l) u i) k (s.sound.kinds.kinds u i k s.row kind)

-- a number, a text, a blob and a token are those that the list with its chain tells
abbrev IsCell : Chain → EditList → Token → ℕ → Cell → Type 0
IsCell c l u i x = stated_at c l u i ≡ Some x

pub number_stated : (c : Chain) (l : EditList) (u : Token) (i : ℕ) → IsStated c l u → kind_in u.table i ≡ Some numbers → IsCell c l u i (number (number_at (rows_listed c l.edits) u i))
number_stated c l u i s kind = let w = cell_there c l u i numbers s kind in by w.0 w.1.0 w.1.1
  where
    by : (x : Cell) → cell_of (after c l) u i ≡ Some x → cell_kind x ≡ numbers → IsCell c l u i (number (number_at (rows_listed c l.edits) u i))
    by (number n) is k = sym (s.cell i) ∙ is ∙ ap (λ v. Some (number v)) (number_there (after c l) u i n is ∙ ap (λ f. f u i) s.seen.numbers)
    by (text v) is k = absurd cc
    by (blob v) is k = absurd cc
    by (guid v) is k = absurd cc
    by (refer t) is k = absurd cc
    by (body b) is k = absurd cc
    by (field v) is k = absurd cc

pub text_stated : (c : Chain) (l : EditList) (u : Token) (i : ℕ) → IsStated c l u → kind_in u.table i ≡ Some texts → IsCell c l u i (text (bytes_at (rows_listed c l.edits) u i))
text_stated c l u i s kind = let w = cell_there c l u i texts s kind in by w.0 w.1.0 w.1.1
  where
    by : (x : Cell) → cell_of (after c l) u i ≡ Some x → cell_kind x ≡ texts → IsCell c l u i (text (bytes_at (rows_listed c l.edits) u i))
    by (text v) is k = sym (s.cell i) ∙ is ∙ ap (λ v. Some (text v)) (text_there (after c l) u i v is ∙ ap (λ f. f u i) s.seen.bytes)
    by (number n) is k = absurd cc
    by (blob v) is k = absurd cc
    by (guid v) is k = absurd cc
    by (refer t) is k = absurd cc
    by (body b) is k = absurd cc
    by (field v) is k = absurd cc

pub blob_stated : (c : Chain) (l : EditList) (u : Token) (i : ℕ) → IsStated c l u → kind_in u.table i ≡ Some blobs → IsCell c l u i (blob (bytes_at (rows_listed c l.edits) u i))
blob_stated c l u i s kind = let w = cell_there c l u i blobs s kind in by w.0 w.1.0 w.1.1
  where
    by : (x : Cell) → cell_of (after c l) u i ≡ Some x → cell_kind x ≡ blobs → IsCell c l u i (blob (bytes_at (rows_listed c l.edits) u i))
    by (blob v) is k = sym (s.cell i) ∙ is ∙ ap (λ v. Some (blob v)) (blob_there (after c l) u i v is ∙ ap (λ f. f u i) s.seen.bytes)
    by (number n) is k = absurd cc
    by (text v) is k = absurd cc
    by (guid v) is k = absurd cc
    by (refer t) is k = absurd cc
    by (body b) is k = absurd cc
    by (field v) is k = absurd cc

pub token_stated : (c : Chain) (l : EditList) (u : Token) (i : ℕ) → IsStated c l u → kind_in u.table i ≡ Some references → IsCell c l u i (refer (token_at (rows_listed c l.edits) u i))
token_stated c l u i s kind = let w = cell_there c l u i references s kind in by w.0 w.1.0 w.1.1
  where
    by : (x : Cell) → cell_of (after c l) u i ≡ Some x → cell_kind x ≡ references → IsCell c l u i (refer (token_at (rows_listed c l.edits) u i))
    by (refer t) is k = sym (s.cell i) ∙ is ∙ ap (λ v. Some (refer v)) (token_there (after c l) u i t is ∙ ap (λ f. f u i) s.seen.tokens)
    by (number n) is k = absurd cc
    by (text v) is k = absurd cc
    by (blob v) is k = absurd cc
    by (guid v) is k = absurd cc
    by (body b) is k = absurd cc
    by (field v) is k = absurd cc

-- a method's first cell is its body
pub body_there : (c : Chain) (l : EditList) (u : Token) (i : ℕ) → IsStated c l u → kind_in u.table i ≡ Some bodies → (b : _) × IsCell c l u i (body b)
body_there c l u i s kind = let w = cell_there c l u i bodies s kind in by w.0 w.1.0 w.1.1
  where
    by : (x : Cell) → cell_of (after c l) u i ≡ Some x → cell_kind x ≡ bodies → (b : _) × IsCell c l u i (body b)
    by (body b) is k = (b, sym (s.cell i) ∙ is)
    by (number n) is k = absurd cc
    by (text v) is k = absurd cc
    by (blob v) is k = absurd cc
    by (guid v) is k = absurd cc
    by (refer t) is k = absurd cc
    by (field v) is k = absurd cc

-- what the cells say fits their columns
pub stated_sound : (c : Chain) (l : EditList) (u : Token) (i : ℕ) (column : Column) (x : Cell) → IsStated c l u → column_in u.table i ≡ Some column → IsCell c l u i x
    → cell_is_sound (after c l) u column x ≡ true
stated_sound c l u i column x s at is = s.sound.cells.each u i column x s.row at (s.cell i ∙ is)
