use Rattle.std.proofs.Common.{◌+◌, ◌<◌, length}
use Rattle.enc_schema.specs.Schema.{list_at}
use Rattle.enc_compact.specs.Held.{SlotSays, AreSaidUpto, AreSlotsKnown}
use Rattle.enc_row_order.specs.Orders.{moved_by}
use Rattle.enc_compact.proofs.signatures.held_table.Given as goal

abbrev pub invariant-loop-n : goal.invariant-loop-n
invariant-loop-n g l =
    AreSaidUpto (g.V.ModuleView.meaning l.view) (moved_by (list_at l.moving.order.now)) l.table l.column l.blobs.held.items l.slots.items l.n
    × AreSlotsKnown (g.V.ModuleView.stored l.view) (SlotSays (moved_by (list_at l.moving.order.now)) l.table l.blobs.held.items) l.blobs.known
    × (length l.blobs.held.items < l.n + 1)
