use Rattle.enc_agg.proofs.after.After.own.Goals as goal

pub returns : goal.returns
returns c = rw (← c.self.view_is) (rw c.row_found.ensures at c.cell.ensures)
