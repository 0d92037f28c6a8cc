use Rattle.enc_agg.proofs.Next.{old_row, old_cell, own_field}
use Rattle.enc_agg.proofs.after.AfterModuleView.field_bytes.Goals as goal

pub field_bytes-requires-clause-row : goal.field_bytes-requires-clause-row
field_bytes-requires-clause-row c = old_row c.self.inside.aggregate.now c.self.inside.ready.now c.args.row _ c.self.invariant
    (rw (← c.self.view_is) at c.place.ensures) c.in-None.is (rw (← c.self.view_is) at c.requires.row)

pub returns-in-None : goal.returns-in-None
returns-in-None c = rw (← c.self.view_is)
    (old_cell c.self.inside.aggregate.now c.self.inside.ready.now c.args.row 0 _ _ c.self.invariant (rw (← c.self.view_is) at c.place.ensures) c.in-None.is
    c.field_bytes.ensures)

pub returns-in-Some : goal.returns-in-Some
returns-in-Some c = rw (← c.self.view_is)
    (own_field c.self.inside.aggregate.now c.self.inside.ready.now c.args.row _ _ c.self.invariant (rw (← c.self.view_is) at c.place.ensures) c.in-Some.is
    c.requires.table)
