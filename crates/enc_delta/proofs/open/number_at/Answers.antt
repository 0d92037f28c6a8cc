use Rattle.std.proofs.Common.{sym, ◌∙◌}
use Rattle.enc_delta.proofs.Halves.{map_column, number_read}
use Rattle.enc_delta.proofs.open.number_at.Goals as goal

pub cell-requires-clause-column : goal.cell-requires-clause-column
cell-requires-clause-column c = rw c.nth_row.ensures map_column

pub returns-clause-number : goal.returns-clause-number
returns-clause-number c = c.from.ensures ∙ sym (number_read c.args.bytes.now c.args.il.now c.args.opened.now c.args.i c.cell.result c.requires.opened (rw c.nth_row.ensures at c.cell.ensures))
