use Rattle.std.proofs.Common.{◌≡◌, sym, ◌∙◌, arith}
use Rattle.enc_compact.proofs.MovesListed.{no_tables, one_table, tables_end}
use Rattle.enc_compact.proofs.moves.moved_rows.Goals as goal

pub loop-table-init : goal.loop-table-init
loop-table-init g c = c.new-moves.ensures.items ∙ sym (no_tables (g.V.ModuleView.meaning c.args.view.now))

pub loop-table-preserved : goal.loop-table-preserved
loop-table-preserved g c =
    one_table (g.V.ModuleView.meaning c.args.view.now) c.loop-table.table c.loop-table.moves.items c.push_table.new.moves.items c.loop-table.invariant
    c.in_ok-push_table.ensures

pub returns : goal.returns
returns g c =
    let all : c.loop-table.table ≡ 0x2D = omega (arith, c.loop-table-test.false, c.loop-table.auto.table-end) in
    tables_end (g.V.ModuleView.meaning c.args.view.now) c.loop-table.table c.loop-table.moves.items c.loop-table.invariant all
