use Rattle.std.proofs.Common.{◌≡◌, ◌<◌, ap, subst, sym, ◌∙◌, arith}
use Rattle.std.specs.Prelude.{◌^◌}
use Rattle.enc_row_order.specs.Orders.{place_in_order}
use Rattle.enc_row_order.proofs.RowPlaces.{goes_to, goes_low, zero_place}
use Rattle.enc_row_order.proofs.rows.Rows.new_row.Goals as goal

pub returns-then-row-eq0-clause-moved : goal.returns-then-row-eq0-clause-moved
returns-then-row-eq0-clause-moved c =
    zero_place c.self.inside.old.items c.self.inside.new.items c.self.invariant ∙ ap (λ xs. place_in_order xs 0) c.self.view_is
    ∙ ap (place_in_order c.args.self.now) (sym c.if-row-eq0.true)

pub returns-clause-moved : goal.returns-clause-moved
returns-clause-moved c =
    goes_to c.args.self.now _ _ _ _ c.args.row _ c.self.view_is c.self.invariant c.deref-places.ensures.value (omega (arith, c.if-row-eq0.false))
    c.number_at.ensures c.unwrap_or.ensures

pub returns-clause-low : goal.returns-clause-low
returns-clause-low c =
    let is : c.unwrap_or.result ≡ place_in_order c.args.self.now c.args.row =
    goes_to c.args.self.now _ _ _ _ c.args.row _ c.self.view_is c.self.invariant c.deref-places.ensures.value (omega (arith, c.if-row-eq0.false))
    c.number_at.ensures c.unwrap_or.ensures in
    λ low. subst (λ n. n < 2 ^ 24) (sym is) (goes_low c.args.self.now _ _ c.args.row c.self.view_is c.self.invariant low)
