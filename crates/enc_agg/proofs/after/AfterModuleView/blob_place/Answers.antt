use Rattle.enc_agg.proofs.Next.{old_row, old_blob, old_stored, own_place}
use Rattle.enc_agg.proofs.after.AfterModuleView.blob_place.Goals as goal

pub blob_place-requires-clause-row : goal.blob_place-requires-clause-row
blob_place-requires-clause-row c = old_row c.self.inside.aggregate.now c.self.inside.ready.now c.args.row _ c.self.invariant
    (rw (← c.self.view_is) at c.place.ensures) c.in-None.is (rw (← c.self.view_is) at c.requires.row)

pub returns-in-None-clause-blob : goal.returns-in-None-clause-blob
returns-in-None-clause-blob c = rw (← c.self.view_is)
    (old_blob c.self.inside.aggregate.now c.self.inside.ready.now c.args.row c.args.column _ _ c.self.invariant (rw (← c.self.view_is) at c.place.ensures)
    c.in-None.is c.blob_place.ensures.some c.blob_place.ensures.blob)

pub returns-in-None-clause-some : goal.returns-in-None-clause-some
returns-in-None-clause-some c = rw (← c.self.view_is) (old_stored c.self.inside.aggregate.now c.self.inside.ready.now _ c.blob_place.ensures.some)

pub returns-in-Some-clause-blob : goal.returns-in-Some-clause-blob
returns-in-Some-clause-blob c = rw (← c.self.view_is, c.from.ensures)
    ((own_place c.self.inside.aggregate.now c.self.inside.ready.now c.args.row _ c.args.column _ _ c.self.invariant
    (rw (← c.self.view_is) at c.place.ensures) c.in-Some.is c.requires.kind (rw (← c.self.view_is) at c.own.ensures)).0)

pub returns-in-Some-clause-some : goal.returns-in-Some-clause-some
returns-in-Some-clause-some c = rw (← c.self.view_is, c.from.ensures)
    ((own_place c.self.inside.aggregate.now c.self.inside.ready.now c.args.row _ c.args.column _ _ c.self.invariant
    (rw (← c.self.view_is) at c.place.ensures) c.in-Some.is c.requires.kind (rw (← c.self.view_is) at c.own.ensures)).1)
