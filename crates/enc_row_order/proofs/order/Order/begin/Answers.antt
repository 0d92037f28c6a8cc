use Rattle.std.proofs.Common.{◌≡◌, ◌∙◌, ap, map, arith}
use Rattle.enc_rows.specs.Sums.{below}
use Rattle.enc_base.specs.Tables.{table_count}
use Rattle.enc_row_order.specs.Orders.{standing_rows}
use Rattle.enc_row_order.proofs.Staged.{no_tables, more_tables, all_tables, all_orders, own_order, own_few, own_fit, own_rows}
use Rattle.enc_row_order.proofs.order.Order.begin.Goals as goal

pub loop-table-init : goal.loop-table-init
loop-table-init g c = no_tables (standing_rows (g.V.ModuleView.meaning c.args.view.now)) _ c.new-tables.ensures.items

pub of-requires-clause-few : goal.of-requires-clause-few
of-requires-clause-few g c =
    own_few (g.V.ModuleView.meaning c.args.view.now) c.loop-table.table c.count.result _ c.requires.sound c.count.ensures.count c.in_ok-list.ensures

pub of-requires-clause-rows : goal.of-requires-clause-rows
of-requires-clause-rows g c =
    own_fit (g.V.ModuleView.meaning c.args.view.now) c.loop-table.table c.count.result _ c.count.ensures.count c.in_ok-list.ensures

pub loop-table-preserved : goal.loop-table-preserved
loop-table-preserved g c =
    let m = g.V.ModuleView.meaning c.args.view.now in
    more_tables (standing_rows m) c.loop-table.table c.loop-table.tables.items _ _ c.loop-table.invariant
    (c.in_ok-of.ensures ∙ own_rows m c.loop-table.table c.count.result _ c.count.ensures.count c.in_ok-list.ensures) c.in_ok-push.ensures.items

pub returns-clause-same : goal.returns-clause-same
returns-clause-same g c =
    let m = g.V.ModuleView.meaning c.args.view.now in
    let all : c.loop-table.table ≡ table_count = omega (arith, c.loop-table-test.false, c.loop-table.auto.table-end) in
    all_tables m (standing_rows m) _ c.requires.sound (own_order m) (c.loop-table.invariant ∙ ap (λ n. map (standing_rows m) (below n)) all)

pub returns-clause-orders : goal.returns-clause-orders
returns-clause-orders g c =
    let m = g.V.ModuleView.meaning c.args.view.now in
    let all : c.loop-table.table ≡ table_count = omega (arith, c.loop-table-test.false, c.loop-table.auto.table-end) in
    all_orders m (standing_rows m) _ c.requires.sound (own_order m) (c.loop-table.invariant ∙ ap (λ n. map (standing_rows m) (below n)) all)
