use Rattle.std.proofs.Common.{sym, subst, length, drop, arith}
use Rattle.enc_row_order.specs.Places.{ArePlacedFrom}
use Rattle.enc_row_order.proofs.RowSteps.{no_places, one_down}
use Rattle.enc_row_order.proofs.rows.places_of.Goals as goal

pub loop-i-init : goal.loop-i-init
loop-i-init c =
    let here = no_places c.args.old.now in
    let many = length c.args.old.now in
    (omega arith, subst (λ xs. ArePlacedFrom many many (drop many c.args.old.now) xs) (sym c.in_ok-new.ensures) here)

pub loop-i-preserved : goal.loop-i-preserved
loop-i-preserved c =
    let low = c.loop-i.invariant.0 in
    (omega (arith, low), one_down c.args.old.now c.loop-i.new.items c.loop-i.i 0 c.loop-i-test.true low c.requires.rows c.loop-i.invariant.1)
