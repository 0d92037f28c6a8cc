use Rattle.enc_rows.proofs.Cells.{fits_two}
use Rattle.enc_rows.proofs.written.push_cell.Goals as goal

pub overflow_cast-number : goal.overflow_cast-number
overflow_cast-number c = record { fits = fits_two _ c.args.column _ c.args.number c.width.ensures.width c.width.ensures.size c.if-width-eq4.false c.requires }
