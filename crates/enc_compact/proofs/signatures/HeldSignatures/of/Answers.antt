use Rattle.enc_schema.specs.Schema.{list_at}
use Rattle.enc_row_order.specs.Orders.{moved_by}
use Rattle.enc_compact.proofs.SignaturesHeld.{table_said}
use Rattle.enc_compact.proofs.signatures.HeldSignatures.of.Goals as goal

pub loop-table-preserved : goal.loop-table-preserved
loop-table-preserved g c =
    table_said (g.V.ModuleView.meaning c.args.view.now) (moved_by (list_at c.args.order.now)) c.loop-table.tables.items c.push.new.self.items _
    c.loop-table.table
    c.loop-table.invariant c.in_ok-held_or_none.ensures c.in_ok-push.ensures.items
