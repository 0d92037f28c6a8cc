use Rattle.std.proofs.Common.{◌∙◌, sym}
use Rattle.enc_schema.specs.Schema.{list_at}
use Rattle.enc_row_order.proofs.Staged.{stage_orders, stage_keeps, ordered_few, ordered_fit}
use Rattle.enc_row_order.proofs.stage.table_rows.Goals as goal

pub returns-then-not-orders : goal.returns-then-not-orders
returns-then-not-orders g c =
    stage_keeps c.args.stage (g.V.ModuleView.meaning c.args.view.now) (list_at c.args.before.now) c.args.table _
    (sym c.orders.ensures ∙ c.if-not-orders.true) c.in_ok-same.ensures

pub of-requires-clause-few : goal.of-requires-clause-few
of-requires-clause-few g c =
    ordered_few c.args.stage (g.V.ModuleView.meaning c.args.view.now) c.args.before.now c.args.table _ c.requires.sound c.requires.orders
    (sym c.orders.ensures ∙ c.if-not-orders.false) c.in_ok-list.ensures

pub of-requires-clause-rows : goal.of-requires-clause-rows
of-requires-clause-rows g c =
    ordered_fit c.args.stage (g.V.ModuleView.meaning c.args.view.now) c.args.before.now c.args.table _ c.requires.sound c.requires.orders
    (sym c.orders.ensures ∙ c.if-not-orders.false) c.in_ok-list.ensures

pub returns : goal.returns
returns g c =
    stage_orders c.args.stage (g.V.ModuleView.meaning c.args.view.now) (list_at c.args.before.now) c.args.table _
    (sym c.orders.ensures ∙ c.if-not-orders.false) (c.in_ok-rows.ensures ∙ c.in_ok-list.ensures)
