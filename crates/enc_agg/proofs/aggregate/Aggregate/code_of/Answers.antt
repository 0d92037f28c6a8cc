use Rattle.enc_agg.proofs.Asked.{base_row, base_body, base_texts, the_found, body_found, texts_found}
use Rattle.enc_agg.proofs.StoredCode.{stored_in_base, stored_in_delta}
use Rattle.enc_agg.proofs.aggregate.Aggregate.code_of.Goals as goal

pub body-requires-clause-row : goal.body-requires-clause-row
body-requires-clause-row c = base_row c.self.inside.image _ c.args.method c.self.invariant.deltas _ (rw c.deref.ensures.value at c.find.ensures)
    c.in_default.is (rw (← c.self.view_is) at c.requires.row)

pub returns-in_default-clause-body : goal.returns-in_default-clause-body
returns-in_default-clause-body c =
    let found = rw c.deref.ensures.value at c.find.ensures in
    let there = base_row c.self.inside.image _ c.args.method c.self.invariant.deltas _ found c.in_default.is (rw (← c.self.view_is) at c.requires.row) in
    rw (← c.self.view_is)
    (λ texts more. base_body c.self.inside.image _ c.args.method _ texts c.self.invariant.deltas more _ found c.in_default.is there c.requires.table
    c.body.ensures.code)

pub returns-clause-body : goal.returns-clause-body
returns-clause-body c =
    let found = the_found c.self.inside.image _ c.args.method c.self.invariant.deltas _ c.in-Some.found (rw c.deref.ensures.value at c.find.ensures)
    c.in-Some.is in
    rw (← c.self.view_is)
    (λ texts more. body_found c.self.inside.image _ _ c.args.method _ _ _ texts found more c.requires.table
    (rw c.row_found.ensures at c.number-place.ensures) c.body_in.ensures.code)

pub returns-in_default-clause-texts : goal.returns-in_default-clause-texts
returns-in_default-clause-texts c =
    let found = rw c.deref.ensures.value at c.find.ensures in
    let there = base_row c.self.inside.image _ c.args.method c.self.invariant.deltas _ found c.in_default.is (rw (← c.self.view_is) at c.requires.row) in
    rw (← c.self.view_is) (base_texts c.self.inside.image _ c.args.method c.body.result c.self.invariant.deltas there c.requires.table c.body.ensures.code)

pub returns-clause-texts : goal.returns-clause-texts
returns-clause-texts c =
    let found = the_found c.self.inside.image _ c.args.method c.self.invariant.deltas _ c.in-Some.found (rw c.deref.ensures.value at c.find.ensures)
    c.in-Some.is in
    rw (← c.self.view_is) (texts_found c.self.inside.image _ _ c.args.method _ _ _ found c.requires.table
    (rw c.row_found.ensures at c.number-place.ensures) c.body_in.ensures.code)

pub returns-in_default-clause-stored : goal.returns-in_default-clause-stored
returns-in_default-clause-stored c =
    rw (← c.self.view_is)
    (stored_in_base c.self.inside.image _ c.args.method c.body.result c.find.result (rw c.deref.ensures.value at c.find.ensures) c.in_default.is c.body.ensures.code)

pub returns-clause-stored : goal.returns-clause-stored
returns-clause-stored c =
    rw (← c.self.view_is)
    (stored_in_delta c.self.inside.image _ c.args.method _ c.body_in.result c.find.result c.in-Some.found (rw c.deref.ensures.value at c.find.ensures) c.in-Some.is
    (rw c.row_found.ensures at c.number-place.ensures) c.body_in.ensures.code)
