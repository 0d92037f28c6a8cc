use Rattle.std.proofs.Common.{arith}
use Rattle.enc_rows.proofs.Cells.{all_item, fits_length}
use Rattle.enc_rows.proofs.written.push_rows.Goals as goal

pub push_row-requires-clause-length : goal.push_row-requires-clause-length
push_row-requires-clause-length c = rw c.cells.ensures (fits_length _ _ _ (all_item _ _ c.loop-row.row-index _ c.requires (omega arith) c.row-item.is))

pub push_row-requires-clause-fit : goal.push_row-requires-clause-fit
push_row-requires-clause-fit c = rw c.cells.ensures (all_item _ _ c.loop-row.row-index _ c.requires (omega arith) c.row-item.is)
