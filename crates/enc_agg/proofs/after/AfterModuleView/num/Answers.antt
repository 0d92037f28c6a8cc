use Rattle.enc_agg.proofs.Next.{old_row, old_cell, own_number}
use Rattle.enc_agg.proofs.after.AfterModuleView.num.Goals as goal

pub num-requires-clause-row : goal.num-requires-clause-row
num-requires-clause-row c = old_row c.self.inside.aggregate.now c.self.inside.ready.now c.args.row _ c.self.invariant
    (rw (← c.self.view_is) at c.place.ensures) c.in-None.is (rw (← c.self.view_is) at c.requires.row)

pub returns-in-None : goal.returns-in-None
returns-in-None c = rw (← c.self.view_is)
    (old_cell c.self.inside.aggregate.now c.self.inside.ready.now c.args.row c.args.column _ _ c.self.invariant (rw (← c.self.view_is) at c.place.ensures)
    c.in-None.is c.num.ensures)

pub returns-in-Some : goal.returns-in-Some
returns-in-Some c = rw (← c.self.view_is)
    (own_number c.self.inside.aggregate.now c.self.inside.ready.now c.args.row _ c.args.column _ _ c.self.invariant
    (rw (← c.self.view_is) at c.place.ensures) c.in-Some.is c.requires.kind (rw (← c.self.view_is) at c.own.ensures))
