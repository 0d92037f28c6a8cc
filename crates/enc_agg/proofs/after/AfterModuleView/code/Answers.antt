use Rattle.enc_agg.proofs.Next.{old_row, old_code, old_texts, own_code, own_texts}
use Rattle.enc_agg.proofs.after.AfterModuleView.code.Goals as goal

pub code_of-requires-clause-row : goal.code_of-requires-clause-row
code_of-requires-clause-row c = old_row c.self.inside.aggregate.now c.self.inside.ready.now c.args.method _ c.self.invariant
    (rw (← c.self.view_is) at c.place.ensures) c.in-None.is (rw (← c.self.view_is) at c.requires.row)

pub returns-in-None-clause-body : goal.returns-in-None-clause-body
returns-in-None-clause-body c = rw (← c.self.view_is)
    (old_code c.self.inside.aggregate.now c.self.inside.ready.now c.args.method _ _ c.self.invariant (rw (← c.self.view_is) at c.place.ensures)
    c.in-None.is c.code_of.ensures.body)

pub returns-in-Some-clause-body : goal.returns-in-Some-clause-body
returns-in-Some-clause-body c = rw (← c.self.view_is)
    (own_code c.self.inside.aggregate.now c.self.inside.ready.now c.args.method _ _ _ _ c.self.invariant (rw (← c.self.view_is) at c.place.ensures)
    c.in-Some.is c.requires.table (rw (← c.self.view_is) at c.own.ensures) c.code.ensures.code)

pub returns-in-None-clause-texts : goal.returns-in-None-clause-texts
returns-in-None-clause-texts c = rw (← c.self.view_is) (old_texts c.self.inside.aggregate.now c.self.inside.ready.now _ c.code_of.ensures.texts)

pub returns-in-Some-clause-texts : goal.returns-in-Some-clause-texts
returns-in-Some-clause-texts c = rw (← c.self.view_is)
    (own_texts c.self.inside.aggregate.now c.self.inside.ready.now c.args.method _ _ _ _ c.self.invariant (rw (← c.self.view_is) at c.place.ensures)
    c.in-Some.is c.requires.table (rw (← c.self.view_is) at c.own.ensures) c.code.ensures.code)
