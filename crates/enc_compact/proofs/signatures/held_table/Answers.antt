use Rattle.std.proofs.Common.{◌<◌, arith}
use Rattle.enc_schema.specs.Schema.{list_at}
use Rattle.enc_row_order.specs.Orders.{moved_by}
use Rattle.enc_compact.proofs.HeldKept.{row_met}
use Rattle.enc_compact.proofs.SignaturesHeld.{row_says}
use Rattle.enc_compact.proofs.signatures.held_table.Goals as goal

pub slot_of-requires-clause-row : goal.slot_of-requires-clause-row
slot_of-requires-clause-row g c =
    let low : c.loop-n.n < c.count-n-end.result = omega (arith, c.loop-n-test.true, c.loop-n.auto.n-end) in
    row_met (g.V.ModuleView.meaning c.args.view.now) c.args.table c.loop-n.n c.count-n-end.result low c.count-n-end.ensures.count

pub loop-n-preserved : goal.loop-n-preserved
loop-n-preserved g c =
    let m = g.V.ModuleView.meaning c.args.view.now in
    let inv = c.loop-n.invariant in (
      row_says m (moved_by (list_at c.args.moving.now.order.now)) c.args.table c.args.column c.loop-n.blobs.held.items _ c.in-Ok.ensures.grows.0
          c.loop-n.slots.items c.push.new.self.items c.loop-n.n c.in-Ok.slot inv.0 c.in-Ok.ensures.grows.1 c.in-Ok.ensures.says
          c.in_ok-push-in-Ok.ensures.items,
      c.in-Ok.ensures.known,
      omega (arith, inv.2, c.in-Ok.ensures.few),
    )
