-- From a column's number to its cell: what the heaps and the counts of rows say.
use Rattle.std.specs.Prelude.{ℕ, zero, suc, List, Option, Some, None, option_map, option_and_then, nat_le, if◌then◌else◌}
use Rattle.enc_opcodes.specs.Body.{Body}
use Rattle.enc_base.specs.Token.{nil}
use Rattle.enc_base.specs.declared.token.Token.{Token}
use Rattle.enc_schema.specs.declared.column.Column.{Column}
use Rattle.enc_schema.specs.declared.column.Column.TheVariants.{Num8, Num16, Num32, Text, Guid, Blob, Index, Coded, Run}
use Rattle.enc_schema.specs.Coding.{decoded}
use Rattle.enc_plain.specs.Cell.{Cell, number, text, blob, guid, refer, body, field, is_body, is_field}

-- by what numbers are read: the entries at an offset of each heap, how many rows a table has, the body at a place,
-- and the bytes of a field by its row of
-- FieldRVA
pub record Reading : Type 0 where
  pub text : ℕ → Option (List ℕ)
  pub blob : ℕ → Option (List ℕ)
  pub guid : ℕ → Option (List ℕ)
  pub count : ℕ → ℕ
  pub code : ℕ → Option Body
  pub field : Token → List ℕ

-- the token, where it is nil or one of the rows
abbrev pub within : (ℕ → ℕ) → Token → Option Token
within count token = if nat_le token.row (count token.table) then Some token else None

-- row 0 of a table is nil
abbrev pub index_token : ℕ → ℕ → Token
index_token table zero = nil
index_token table (suc r) = record { table = table; row = suc r }

-- the cell that a column's number stands for: None where an offset isn't good, where an index is past its table or
-- has a tag of no table, and for a run,
-- which has no cell
unfoldable pub cell_read : Reading → Column → ℕ → Option Cell
cell_read r Num8 n = Some (number n)
cell_read r Num16 n = Some (number n)
cell_read r Num32 n = Some (number n)
cell_read r Text n = option_map text (r.text n)
cell_read r Guid n = option_map guid (r.guid n)
cell_read r Blob n = option_map blob (r.blob n)
cell_read r (Index table) n = option_map refer (within r.count (index_token table n))
cell_read r (Coded kind) n = option_map refer (option_and_then (within r.count) (decoded kind n))
cell_read r (Run table) n = None

-- the cell in a row's column
unfoldable pub cell_with : Reading → Token → ℕ → Column → ℕ → Option Cell
cell_with r row i column n =
    if is_body row.table i then Some (body (r.code n)) else if is_field row.table i then Some (field (r.field row))
    else cell_read r column n
