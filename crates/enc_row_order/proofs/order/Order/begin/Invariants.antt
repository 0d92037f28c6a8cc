use Rattle.std.proofs.Common.{◌≡◌, map}
use Rattle.enc_rows.specs.Sums.{below}
use Rattle.enc_row_order.specs.Orders.{standing_rows}
use Rattle.enc_row_order.proofs.order.Order.begin.Given as goal

abbrev pub invariant-loop-table : goal.invariant-loop-table
invariant-loop-table g l = l.tables.items ≡ map (standing_rows (g.V.ModuleView.meaning l.view)) (below l.table)
