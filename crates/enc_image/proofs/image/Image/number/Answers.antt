use Rattle.enc_image.proofs.Rows.{row_in_tables}
use Rattle.enc_image.proofs.image.Image.number.Goals as goal

pub cell-requires-clause-row : goal.cell-requires-clause-row
cell-requires-clause-row c = row_in_tables _ c.args.row (rw (← c.self.view_is) at c.requires.row)
