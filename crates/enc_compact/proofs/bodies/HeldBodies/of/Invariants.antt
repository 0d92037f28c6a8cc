use Rattle.std.proofs.Common.{◌≡◌, ◌+◌, ◌<◌, length}
use Rattle.enc_compact.specs.Held.{SlotHolds, AreHeldUpto, AreSlotsKnown}
use Rattle.enc_row_order.specs.Orders.{moved_by, new_order}
use Rattle.enc_compact.proofs.bodies.HeldBodies.of.Given as goal

abbrev pub invariant-loop-n : goal.invariant-loop-n
invariant-loop-n g l = AreHeldUpto (g.V.ModuleView.meaning l.view) (moved_by (new_order (g.V.ModuleView.meaning l.view)))
    (g.V.ModuleView.users l.view) l.bodies.held.items l.slots.items l.n
    × AreSlotsKnown (g.V.ModuleView.places l.view) (SlotHolds (moved_by (new_order (g.V.ModuleView.meaning l.view)))
    (g.V.ModuleView.users l.view) l.bodies.held.items) l.bodies.known
    × (length l.bodies.held.items < l.n + 1)
    × (l.mover.order.now ≡ l.fn.order)
