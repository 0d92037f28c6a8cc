-- The cell of a row: what stands in a column, without heaps, offsets or widths.
use Rattle.enc_opcodes.specs.Body.{Body}
use Rattle.std.specs.Prelude.{ℕ, Bool, ◌&&◌, ◌==◌, List, Option, Some, None, option_and_then, length, filter, is_some, if◌then◌else◌}
use Rattle.enc_base.specs.declared.token.Token.{Token}
use Rattle.enc_schema.specs.declared.column.Column.{Column}
use Rattle.enc_schema.specs.declared.column.Column.TheVariants.{Num8, Num16, Num32, Text, Guid, Blob, Index, Coded, Run}
use Rattle.enc_schema.specs.Schema.{columns_in, column_in}
use Rattle.enc_base.specs.Tables as tables

-- a number; the bytes of a text, of a blob, of a GUID; a token, where nil names nothing; the body of a method, or
-- that it has none; the initial bytes of a
-- field (ECMA-335 II.22)
pub data Cell : Type 0 where
  number : ℕ → Cell
  text : List ℕ → Cell
  blob : List ℕ → Cell
  guid : List ℕ → Cell
  refer : Token → Cell
  body : Option Body → Cell
  field : List ℕ → Cell

-- the kinds of cells
pub data Kind : Type 0 where
  numbers : Kind
  texts : Kind
  blobs : Kind
  guids : Kind
  references : Kind
  bodies : Kind
  fields : Kind

-- the kind that a cell is of
abbrev pub cell_kind : Cell → Kind
cell_kind (number n) = numbers
cell_kind (text bytes) = texts
cell_kind (blob bytes) = blobs
cell_kind (guid bytes) = guids
cell_kind (refer token) = references
cell_kind (body there) = bodies
cell_kind (field bytes) = fields

-- which kind of cell a column has; a run has none
abbrev pub kind_of : Column → Option Kind
kind_of Num8 = Some numbers
kind_of Num16 = Some numbers
kind_of Num32 = Some numbers
kind_of Text = Some texts
kind_of Guid = Some guids
kind_of Blob = Some blobs
kind_of (Index table) = Some references
kind_of (Coded kind) = Some references
kind_of (Run table) = None

-- the columns whose numbers are places: that of a method's body (ECMA-335 II.22.26), and that of a field's bytes
-- (II.22.18)
abbrev pub is_body : ℕ → ℕ → Bool
is_body table i = table == tables.method_def && i == 0

abbrev pub is_field : ℕ → ℕ → Bool
is_field table i = table == tables.field_rva && i == 0

-- the kind of cells in a table's column
abbrev pub kind_in : ℕ → ℕ → Option Kind
kind_in table i = if is_body table i then Some bodies else if is_field table i then Some fields
    else option_and_then kind_of (column_in table i)

-- how many columns of a table have cells; runs stand behind them
abbrev pub cell_count : ℕ → ℕ
cell_count table = length (filter (λ (c : Column). is_some (kind_of c)) (columns_in table))
