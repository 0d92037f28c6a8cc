-- What a cell of an added row says, by its column.
use Rattle.std.specs.Prelude.{List, [], ◌∷◌, Option, Some, None, option_map, ◌==◌, if◌then◌else◌}
use Rattle.std.specs.List.{list_any}
use Rattle.serde_json.specs.Data.{Data}
use Rattle.serde_json.specs.Find.{as_str}
use Rattle.enc_schema.specs.declared.column.Column.{Column}
use Rattle.enc_schema.specs.declared.column.Column.TheVariants.{Num8, Num16, Num32, Text, Guid, Blob, Index, Coded, Run}
use Rattle.enc_opcodes.specs.Instruction.{◌>>=◌}
use Rattle.enc_edit_list.specs.declared.edit.Cell.{Cell as CellValue}
use Rattle.enc_edit_list.specs.declared.edit.Cell.TheVariants as cell
use Rattle.enc_jobs.specs.Lists.{with_first}
use Rattle.enc_jobs.specs.Json.{number_said, word_said, hex_said, token_said, guid_said}

-- a text without a zero character
unfoldable pub text_cell_said : Data → Option CellValue
text_cell_said d = do
  t ← as_str d
  if list_any (λ b. b == 0) t then None else Some (cell.Text t)

-- a number that fits the column, a text, a GUID, a blob or a token
unfoldable pub cell_said : Column → Data → Option CellValue
cell_said Num8 d = option_map cell.Num (number_said 0xFF d)
cell_said Num16 d = option_map cell.Num (number_said 0xFFFF d)
cell_said Num32 d = option_map cell.Num (word_said d)
cell_said Text d = text_cell_said d
cell_said Guid d = option_map cell.Guid (guid_said d)
cell_said Blob d = option_map cell.Blob (hex_said d)
cell_said (Index table) d = option_map cell.Refer (token_said d)
cell_said (Coded kind) d = option_map cell.Refer (token_said d)
cell_said (Run table) d = None

-- a cell for each column
unfoldable pub cells_said : List Column → List Data → Option (List CellValue)
cells_said [] [] = Some []
cells_said (c ∷ columns) (d ∷ ds) = with_first (cell_said c d) (cells_said columns ds)
cells_said _ _ = None
