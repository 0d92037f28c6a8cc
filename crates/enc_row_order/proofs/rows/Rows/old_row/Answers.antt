use Rattle.std.proofs.Common.{◌≡◌, ◌<◌, ap, subst, sym, ◌∙◌, arith}
use Rattle.std.specs.Prelude.{◌^◌}
use Rattle.enc_row_order.specs.Orders.{old_row}
use Rattle.enc_row_order.proofs.RowPlaces.{comes_to, comes_low, old_zero}
use Rattle.enc_row_order.proofs.rows.Rows.old_row.Goals as goal

pub returns-then-place-eq0-clause-row : goal.returns-then-place-eq0-clause-row
returns-then-place-eq0-clause-row c = old_zero c.args.self.now ∙ ap (old_row c.args.self.now) (sym c.if-place-eq0.true)

pub returns-clause-row : goal.returns-clause-row
returns-clause-row c =
    comes_to c.args.self.now _ _ _ c.args.place _ c.self.view_is c.deref-rows.ensures.value (omega (arith, c.if-place-eq0.false))
    c.number_at.ensures c.unwrap_or.ensures

pub returns-clause-low : goal.returns-clause-low
returns-clause-low c =
    let is : c.unwrap_or.result ≡ old_row c.args.self.now c.args.place =
    comes_to c.args.self.now _ _ _ c.args.place _ c.self.view_is c.deref-rows.ensures.value (omega (arith, c.if-place-eq0.false))
    c.number_at.ensures c.unwrap_or.ensures in
    λ low. subst (λ n. n < 2 ^ 24) (sym is) (comes_low c.args.self.now _ _ c.args.place c.self.view_is c.self.invariant low)
