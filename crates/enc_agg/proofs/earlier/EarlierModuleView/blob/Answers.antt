use Rattle.enc_agg.proofs.Asked.{base_row, base_cell, the_found, blob_found}
use Rattle.enc_agg.proofs.earlier.EarlierModuleView.blob.Goals as goal

pub blob-requires-clause-row : goal.blob-requires-clause-row
blob-requires-clause-row c = base_row c.self.inside.image.now _ c.args.row c.self.invariant.deltas _ (c.find.ensures) c.in_default.is (rw (← c.self.view_is) at c.requires.row)

pub returns-in_default : goal.returns-in_default
returns-in_default c = rw (← c.self.view_is) (base_cell c.self.inside.image.now _ c.args.row c.args.column _ c.self.invariant.deltas _ (c.find.ensures) c.in_default.is c.blob.ensures)

pub entry_in-requires : goal.entry_in-requires
entry_in-requires c = (the_found c.self.inside.image.now _ c.args.row c.self.invariant.deltas _ c.in-Some.found (c.find.ensures) c.in-Some.is).all

pub unreachable-requires : goal.unreachable-requires
unreachable-requires c =
    let found = the_found c.self.inside.image.now _ c.args.row c.self.invariant.deltas _ c.in-Some.found (c.find.ensures) c.in-Some.is in
    let cell = blob_found c.self.inside.image.now _ _ c.args.row _ c.args.column _ found c.requires.kind (rw c.row_found.ensures at c.number-offset.ensures) in
    rw (← c.entry_in.ensures, c.in-None.is) at cell

pub returns : goal.returns
returns c =
    let found = the_found c.self.inside.image.now _ c.args.row c.self.invariant.deltas _ c.in-Some.found (c.find.ensures) c.in-Some.is in
    let cell = blob_found c.self.inside.image.now _ _ c.args.row _ c.args.column _ found c.requires.kind (rw c.row_found.ensures at c.number-offset.ensures) in
    rw (← c.self.view_is) (rw (← c.entry_in.ensures, c.in-Some-entry_in.is) at cell)
