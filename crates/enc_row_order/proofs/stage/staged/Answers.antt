use Rattle.std.proofs.Common.{◌≡◌, ◌∙◌, ap, map, arith}
use Rattle.enc_rows.specs.Sums.{below}
use Rattle.enc_schema.specs.Schema.{list_at}
use Rattle.enc_base.specs.Tables.{table_count}
use Rattle.enc_row_order.specs.Stages.{stage_of}
use Rattle.enc_row_order.proofs.Staged.{no_tables, more_tables, all_tables, all_orders, stage_permutes}
use Rattle.enc_row_order.proofs.stage.staged.Goals as goal

pub loop-table-init : goal.loop-table-init
loop-table-init g c =
    no_tables (stage_of c.args.stage (g.V.ModuleView.meaning c.args.view.now) (list_at c.args.before.now)) _ c.new-tables.ensures.items

pub loop-table-preserved : goal.loop-table-preserved
loop-table-preserved g c =
    more_tables (stage_of c.args.stage (g.V.ModuleView.meaning c.args.view.now) (list_at c.args.before.now)) c.loop-table.table c.loop-table.tables.items _ _
    c.loop-table.invariant c.in_ok-table_rows.ensures c.in_ok-push.ensures.items

pub returns-clause-staged : goal.returns-clause-staged
returns-clause-staged g c =
    let m = g.V.ModuleView.meaning c.args.view.now in
    let all : c.loop-table.table ≡ table_count = omega (arith, c.loop-table-test.false, c.loop-table.auto.table-end) in
    all_tables m (stage_of c.args.stage m (list_at c.args.before.now)) _ c.requires.sound
    (stage_permutes c.args.stage m c.args.before.now c.requires.sound c.requires.orders)
    (c.with.ensures ∙ c.loop-table.invariant ∙ ap (λ n. map (stage_of c.args.stage m (list_at c.args.before.now)) (below n)) all)

pub returns-clause-orders : goal.returns-clause-orders
returns-clause-orders g c =
    let m = g.V.ModuleView.meaning c.args.view.now in
    let all : c.loop-table.table ≡ table_count = omega (arith, c.loop-table-test.false, c.loop-table.auto.table-end) in
    all_orders m (stage_of c.args.stage m (list_at c.args.before.now)) _ c.requires.sound
    (stage_permutes c.args.stage m c.args.before.now c.requires.sound c.requires.orders)
    (c.with.ensures ∙ c.loop-table.invariant ∙ ap (λ n. map (stage_of c.args.stage m (list_at c.args.before.now)) (below n)) all)
