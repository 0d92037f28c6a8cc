use Rattle.std.proofs.Common.{◌≡◌}
use Rattle.enc_row_order.specs.Orders.{order_key}
use Rattle.enc_row_order.proofs.KeysOf.{entries_upto}
use Rattle.enc_schema.specs.Schema.{list_at}
use Rattle.enc_row_order.proofs.keys.keyed_entries.Given as goal

abbrev pub invariant-loop-n : goal.invariant-loop-n
invariant-loop-n g l = l.entries.items ≡ entries_upto (order_key (list_at l.fn.order) (g.V.ModuleView.meaning l.view) l.table) l.n
