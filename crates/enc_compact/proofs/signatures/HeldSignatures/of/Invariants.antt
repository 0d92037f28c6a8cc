use Rattle.enc_schema.specs.Schema.{list_at}
use Rattle.enc_compact.specs.Held.{AreTablesHeld}
use Rattle.enc_row_order.specs.Orders.{moved_by}
use Rattle.enc_compact.proofs.signatures.HeldSignatures.of.Given as goal

abbrev pub invariant-loop-table : goal.invariant-loop-table
invariant-loop-table g l = AreTablesHeld (g.V.ModuleView.meaning l.view) (moved_by (list_at l.order)) l.tables.items l.table
