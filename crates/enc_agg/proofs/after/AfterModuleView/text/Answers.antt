use Rattle.enc_agg.proofs.Next.{old_row, old_cell, own_text}
use Rattle.enc_agg.proofs.after.AfterModuleView.text.Goals as goal

pub text-requires-clause-row : goal.text-requires-clause-row
text-requires-clause-row c = old_row c.self.inside.aggregate.now c.self.inside.ready.now c.args.row _ c.self.invariant
    (rw (← c.self.view_is) at c.place.ensures) c.in_default.is (rw (← c.self.view_is) at c.requires.row)

pub returns-in_default : goal.returns-in_default
returns-in_default c = rw (← c.self.view_is)
    (old_cell c.self.inside.aggregate.now c.self.inside.ready.now c.args.row c.args.column _ _ c.self.invariant (rw (← c.self.view_is) at c.place.ensures)
    c.in_default.is c.text.ensures)

pub unreachable-requires : goal.unreachable-requires
unreachable-requires c =
    let cell = own_text c.self.inside.aggregate.now c.self.inside.ready.now c.args.row _ c.args.column _ _ _ c.self.invariant
    (rw (← c.self.view_is) at c.place.ensures) c.in-Some.is c.requires.kind (rw (← c.self.view_is) at c.own.ensures)
    (rw (← c.self.view_is) at c.entry_in.ensures) in
    rw c.in-None.is at cell

pub returns : goal.returns
returns c =
    let cell = own_text c.self.inside.aggregate.now c.self.inside.ready.now c.args.row _ c.args.column _ _ _ c.self.invariant
    (rw (← c.self.view_is) at c.place.ensures) c.in-Some.is c.requires.kind (rw (← c.self.view_is) at c.own.ensures)
    (rw (← c.self.view_is) at c.entry_in.ensures) in
    rw (← c.self.view_is) (rw c.in-Some-entry_in.is at cell)
