use Rattle.enc_agg.proofs.Asked.{base_row, base_cell, the_found, field_found}
use Rattle.enc_agg.proofs.earlier.EarlierModuleView.field_bytes.Goals as goal

pub field_bytes-requires-clause-row : goal.field_bytes-requires-clause-row
field_bytes-requires-clause-row c = base_row c.self.inside.image.now _ c.args.row c.self.invariant.deltas _ (c.find.ensures) c.in-None.is (rw (← c.self.view_is) at c.requires.row)

pub returns-in-None : goal.returns-in-None
returns-in-None c = rw (← c.self.view_is) (base_cell c.self.inside.image.now _ c.args.row 0 _ c.self.invariant.deltas _ (c.find.ensures) c.in-None.is c.field_bytes.ensures)

pub returns-in-Some : goal.returns-in-Some
returns-in-Some c = rw (← c.self.view_is) (field_found c.self.inside.image.now _ _ c.args.row _ (the_found c.self.inside.image.now _ c.args.row c.self.invariant.deltas _ c.in-Some.field-0 (c.find.ensures) c.in-Some.is) c.requires.table)
