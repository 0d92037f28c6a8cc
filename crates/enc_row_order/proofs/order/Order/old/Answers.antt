use Rattle.std.proofs.Common.{◌∙◌, ◌≤◌, subst, length}
use Rattle.enc_row_order.proofs.Moved.{comes_none}
use Rattle.enc_row_order.proofs.order.Order.old.Goals as goal

pub returns-in-None-clause-old : goal.returns-in-None-clause-old
returns-in-None-clause-old c =
    let lists = c.deref.ensures.value ∙ c.self.view_is in
    comes_none c.args.self.now c.args.token (subst (λ xs. length xs ≤ c.args.token.table) lists c.in-None.ensures.lookup.3)
