-- What is known of an edit list after a chain.
use Rattle.std.specs.Prelude.{◌≡◌, ℕ, ◌+◌, ◌-◌, ◌*◌, ◌/◌, ◌%◌, ◌<◌, ◌^◌, ◌==◌, true, List, [], length, map, Option, Some, None, nat_lt, slice_get, slice_index, if◌then◌else◌}
use Rattle.enc_base.specs.Token.{nil}
use Rattle.enc_base.specs.declared.token.Token.{Token}
use Rattle.enc_meta.specs.Joined.{joined_blob}
use Rattle.enc_opcodes.specs.Body.{nil_or}
use Rattle.enc_plain.specs.Rows.{Rows, bytes_at}
use Rattle.enc_plain.specs.Chain.{Chain}
use Rattle.enc_delta.specs.Members.{ArePairs, pair_seen}
use Rattle.enc_edit_list.specs.declared.edit.Cell.{Cell as CellValue}
use Rattle.enc_edit_list.specs.declared.edit.Cell.TheVariants as cell
use Rattle.enc_edit_list.specs.declared.edit.Edit.{Edit}
use Rattle.enc_edit_list.specs.declared.edit.Edit.TheVariants.{Add, Body as Replace}
use Rattle.enc_edit_list.specs.declared.edit.EditList.{EditList}
use Rattle.enc_edit_list.specs.Form.{list_fits, begins_with_rva}
use Rattle.enc_rules.specs.declared.context.ListRows.{ListRows}
use Rattle.enc_rules.specs.Edited.{rows_edited, attached_in}
use Rattle.enc_rules.specs.Listed.{AfterList, count_after, rows_listed}

-- what is known is that of this chain and this list, which has the form of one, and no table has more than 2^24 - 1
-- rows after it
pub record KnowsList (c : Chain) (l : EditList) (k : ListRows) : Type 0 where
  pub form : list_fits l ≡ true
  pub rows : k.rows.items ≡ rows_edited c.plain l.edits
  pub pairs : map pair_seen k.pairs.items ≡ attached_in c.plain l.edits
  pub pair_rows : ArePairs k.pairs.items
  pub counts : (t : ℕ) → t < 64 → slice_index k.counts.rows t ≡ count_after c l.edits t
  pub few : (t : ℕ) → count_after c l.edits t < 2 ^ 24
  pub short : length l.edits < 2 ^ 24

-- the value that an added row states for a column
abbrev pub stated_in : ℕ → List CellValue → ℕ → Option CellValue
stated_in table cells i = if begins_with_rva table then (if i == 0 then None else slice_get cells (i - 1))
    else slice_get cells i

abbrev pub stated_of : Edit → ℕ → Option CellValue
stated_of (Add table owner cells code points) i = stated_in table cells i
stated_of (Replace method code points) i = None

-- the number of a value, 0 where it is none; the bytes of a text or of a blob; the token
abbrev pub number_of_value : Option CellValue → ℕ
number_of_value (Some (cell.Num n)) = n
number_of_value _ = 0

abbrev pub bytes_of_value : Option CellValue → List ℕ
bytes_of_value (Some (cell.Text bytes)) = bytes
bytes_of_value (Some (cell.Blob bytes)) = bytes
bytes_of_value _ = []

abbrev pub token_of_value : Option CellValue → Token
token_of_value (Some (cell.Refer t)) = nil_or t
token_of_value _ = nil

-- the number of a cell
abbrev pub cell_key : Token → ℕ → ℕ
cell_key t i = t.row * 2 ^ 16 + t.table * 2 ^ 8 + i

-- the bytes in the cell of a number
abbrev pub numbered_bytes : Rows → ℕ → Option (List ℕ)
numbered_bytes rows n = Some (bytes_at rows (record { table = n / 2 ^ 8 % 2 ^ 8; row = n / 2 ^ 16 }) (n % 2 ^ 8))

-- the blobs of a list's rows: those of the chain at their places, and the others behind 2^63 by the numbers of their
-- cells
unfoldable pub blobs_listed : AfterList → ℕ → Option (List ℕ)
blobs_listed j n = if nat_lt n (2 ^ 63) then joined_blob j.chain.heaps n
    else numbered_bytes (rows_listed j.chain j.list.edits) (n - 2 ^ 63)

abbrev pub listed_rows : AfterList → Rows
listed_rows j = rows_listed j.chain j.list.edits

abbrev pub listed_counts : AfterList → ℕ → ℕ
listed_counts j = count_after j.chain j.list.edits

-- a number that no other token has
abbrev pub key_of_row : Token → ℕ
key_of_row t = t.table * 2 ^ 32 + t.row
