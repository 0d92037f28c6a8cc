-- For the contracts of private functions: the cell that is meant by what is held of it.
use Rattle.std.specs.Prelude.{Some, option_map}
use Rattle.enc_plain.specs.Cell.{Cell, number, text, blob, guid, refer, body, field}
use Rattle.enc_rules.specs.Edited.{body_stated}
use Rattle.enc_memory_module.specs.Standing.{Stands}
use Rattle.enc_memory_module.specs.declared.plain.PlainCell.{PlainCell}
use Rattle.enc_memory_module.specs.declared.plain.PlainCell.TheVariants as plain

abbrev pub cell_meant : PlainCell → Cell
cell_meant (plain.Number n) = number n
cell_meant (plain.Text bytes) = text bytes.items
cell_meant (plain.Blob bytes) = blob bytes.items
cell_meant (plain.Guid bytes) = guid bytes
cell_meant (plain.Refer token) = refer token
cell_meant (plain.Body b) = body (option_map body_stated b)
cell_meant (plain.Field bytes) = field bytes.items

-- a body that a cell has can be assembled
abbrev pub CellStands : PlainCell → Type 0
CellStands (plain.Body (Some b)) = Stands b
CellStands _ = Unit {0}
