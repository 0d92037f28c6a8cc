use Rattle.enc_agg.proofs.Asked.{base_row, base_cell, the_found, refer_found, some_there, known_there}
use Rattle.enc_agg.proofs.earlier.EarlierModuleView.refer.Goals as goal

pub refer-requires-clause-row : goal.refer-requires-clause-row
refer-requires-clause-row c = base_row c.self.inside.image.now _ c.args.row c.self.invariant.deltas _ (c.find.ensures) c.in_default.is (rw (← c.self.view_is) at c.requires.row)

pub returns-in_default : goal.returns-in_default
returns-in_default c = rw (← c.self.view_is) (base_cell c.self.inside.image.now _ c.args.row c.args.column _ c.self.invariant.deltas _ (c.find.ensures) c.in_default.is c.refer.ensures)

pub token_meant-requires : goal.token_meant-requires
token_meant-requires c =
    let found = the_found c.self.inside.image.now _ c.args.row c.self.invariant.deltas _ c.in-Some.found (c.find.ensures) c.in-Some.is in
    some_there _ _ (refer_found c.self.inside.image.now _ _ c.args.row _ c.args.column _ found c.requires.kind (rw c.row_found.ensures at c.number-number.ensures))

pub returns : goal.returns
returns c =
    let found = the_found c.self.inside.image.now _ c.args.row c.self.invariant.deltas _ c.in-Some.found (c.find.ensures) c.in-Some.is in
    rw (← c.self.view_is)
    (known_there _ _ _ c.token_meant.ensures
    (refer_found c.self.inside.image.now _ _ c.args.row _ c.args.column _ found c.requires.kind (rw c.row_found.ensures at c.number-number.ensures)))
