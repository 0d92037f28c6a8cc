use Rattle.enc_agg.proofs.Asked.{base_row, base_cell, the_found, number_found}
use Rattle.enc_agg.proofs.earlier.EarlierModuleView.num.Goals as goal

pub num-requires-clause-row : goal.num-requires-clause-row
num-requires-clause-row c = base_row c.self.inside.image.now _ c.args.row c.self.invariant.deltas _ (c.find.ensures) c.in-None.is (rw (← c.self.view_is) at c.requires.row)

pub returns-in-None : goal.returns-in-None
returns-in-None c = rw (← c.self.view_is) (base_cell c.self.inside.image.now _ c.args.row c.args.column _ c.self.invariant.deltas _ (c.find.ensures) c.in-None.is c.num.ensures)

pub returns-in-Some : goal.returns-in-Some
returns-in-Some c =
    let found = the_found c.self.inside.image.now _ c.args.row c.self.invariant.deltas _ c.in-Some.found (c.find.ensures) c.in-Some.is in
    rw (← c.self.view_is) (number_found c.self.inside.image.now _ _ c.args.row _ c.args.column _ found c.requires.kind (rw c.row_found.ensures at c.number.ensures))
