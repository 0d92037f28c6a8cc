use Rattle.std.proofs.Common.{◌≡◌, ◌+◌, ap, ◌∙◌, arith}
use Rattle.enc_row_order.specs.Orders.{Orders, moved_by}
use Rattle.enc_compact.proofs.MovesListed.{rows_begin, one_row, rows_end}
use Rattle.enc_compact.proofs.moves.push_table.Goals as goal

pub loop-n-init : goal.loop-n-init
loop-n-init g c = rows_begin (g.V.ModuleView.meaning c.args.view.now) c.args.table c.args.moves.now.items

pub loop-n-preserved : goal.loop-n-preserved
loop-n-preserved g c =
    one_row (g.V.ModuleView.meaning c.args.view.now) c.args.table c.loop-n.n c.args.moves.now.items c.loop-n.moves.items c.push_move.new.moves.items
    c.new_of.result c.loop-n.invariant
    (c.new_of.ensures.moved ∙ ap (λ (o : Orders). moved_by o (record { table = c.args.table; row = c.loop-n.n + 1 })) c.requires) c.in_ok-push_move.ensures

pub returns : goal.returns
returns g c =
    let m = g.V.ModuleView.meaning c.args.view.now in
    let all : c.loop-n.n ≡ c.count-n-end.result = omega (arith, c.loop-n-test.false, c.loop-n.auto.n-end) in
    rows_end m c.args.table c.loop-n.n c.args.moves.now.items c.loop-n.moves.items c.loop-n.invariant (all ∙ c.count-n-end.ensures.count)
