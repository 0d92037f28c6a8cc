use Rattle.std.proofs.Common.{◌≡◌, ◌∙◌, ◌≤◌, ap, subst, length}
use Rattle.enc_schema.specs.Schema.{list_at}
use Rattle.enc_row_order.proofs.Moved.{moves_none, moves_some, there_at}
use Rattle.enc_row_order.proofs.order.Order.moved.Goals as goal

pub returns-in-Some-clause-moved : goal.returns-in-Some-clause-moved
returns-in-Some-clause-moved c =
    let found = c.in-Some.ensures.lookup in
    let lists = c.deref.ensures.value ∙ c.self.view_is in
    let at : c.in-Some.rows.now ≡ list_at c.args.self.now c.args.token.table =
    found.1 ∙ there_at c.deref.result.now c.args.token.table _ found.3.0 ∙ ap (λ xs. list_at xs c.args.token.table) lists in
    moves_some c.args.self.now c.args.token c.in-Some.rows.now _ at c.new_row.ensures.moved

pub returns-in-None-clause-moved : goal.returns-in-None-clause-moved
returns-in-None-clause-moved c =
    let lists = c.deref.ensures.value ∙ c.self.view_is in
    moves_none c.args.self.now c.args.token (subst (λ xs. length xs ≤ c.args.token.table) lists c.in-None.ensures.lookup.3)
