use Rattle.enc_rules.proofs.RowsListed.{stored_number}
use Rattle.enc_rules.proofs.context.ContextCellView.blob_place.Goals as goal

pub returns-in-Some : goal.returns-in-Some
returns-in-Some g c = rw c.cell_key.ensures.number (stored_number c.args.self.now c.args.row c.args.column c.cell_key.ensures.table c.ranges.column.fits)
