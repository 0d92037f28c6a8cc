use Rattle.std.proofs.Common.{◌<◌, arith}
use Rattle.enc_row_order.specs.Orders.{moved_by, new_order}
use Rattle.enc_compact.proofs.BodiesHeld.{method_holds}
use Rattle.enc_compact.proofs.HeldKept.{row_met}
use Rattle.enc_compact.proofs.bodies.HeldBodies.of.Goals as goal

pub slot_of-requires-clause-row : goal.slot_of-requires-clause-row
slot_of-requires-clause-row g c =
    let low : c.loop-n.n < c.count-n-end.result = omega (arith, c.loop-n-test.true, c.loop-n.auto.n-end) in
    row_met (g.V.ModuleView.meaning c.args.view.now) 0x06 c.loop-n.n c.count-n-end.result low c.count-n-end.ensures.count

pub loop-n-preserved : goal.loop-n-preserved
loop-n-preserved g c =
    let m = g.V.ModuleView.meaning c.args.view.now in
    let inv = c.loop-n.invariant in (
      method_holds m (moved_by (new_order m)) (g.V.ModuleView.users c.args.view.now) c.loop-n.bodies.held.items _ c.in-Ok.ensures.grows.0 c.loop-n.slots.items
          c.push.new.self.items c.loop-n.n c.in-Ok.slot inv.0 c.in-Ok.ensures.grows.1 c.in-Ok.ensures.holds c.in_ok-push-in-Ok.ensures.items,
      c.in-Ok.ensures.known,
      omega (arith, inv.2, c.in-Ok.ensures.few),
      inv.3,
    )
