use Rattle.enc_agg.proofs.Asked.{some_there, known_there}
use Rattle.enc_agg.proofs.Next.{old_row, old_cell, own_refer}
use Rattle.enc_agg.proofs.after.AfterModuleView.refer.Goals as goal

pub refer-requires-clause-row : goal.refer-requires-clause-row
refer-requires-clause-row c = old_row c.self.inside.aggregate.now c.self.inside.ready.now c.args.row _ c.self.invariant
    (rw (← c.self.view_is) at c.place.ensures) c.in-None.is (rw (← c.self.view_is) at c.requires.row)

pub returns-in-None : goal.returns-in-None
returns-in-None c = rw (← c.self.view_is)
    (old_cell c.self.inside.aggregate.now c.self.inside.ready.now c.args.row c.args.column _ _ c.self.invariant (rw (← c.self.view_is) at c.place.ensures)
    c.in-None.is c.refer.ensures)

pub token_meant-requires : goal.token_meant-requires
token_meant-requires c = some_there _ _
    (own_refer c.self.inside.aggregate.now c.self.inside.ready.now c.args.row _ c.args.column _ _ c.self.invariant
    (rw (← c.self.view_is) at c.place.ensures) c.in-Some.is c.requires.kind (rw (← c.self.view_is) at c.own.ensures))

pub returns-in-Some : goal.returns-in-Some
returns-in-Some c = rw (← c.self.view_is)
    (known_there _ _ _ c.token_meant.ensures
    (own_refer c.self.inside.aggregate.now c.self.inside.ready.now c.args.row _ c.args.column _ _ c.self.invariant
    (rw (← c.self.view_is) at c.place.ensures) c.in-Some.is c.requires.kind (rw (← c.self.view_is) at c.own.ensures)))
