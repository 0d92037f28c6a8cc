use Rattle.std.proofs.Common.{◌≡◌, ap, ◌∙◌, arith}
use Rattle.enc_rewriter.specs.Standing.{row_weights_before}
use Rattle.enc_rewriter.proofs.Weights.{rows_all}
use Rattle.enc_rewriter.proofs.weight.rows_weight.Goals as goal

pub returns-clause-weight : goal.returns-clause-weight
returns-clause-weight g c =
    let m = g.V.ModuleView.meaning c.args.view.now in
    let all : c.loop-table.table ≡ 64 = omega (arith, c.loop-table-test.false, c.loop-table.auto.table-end) in
    c.loop-table.invariant.0 ∙ ap (row_weights_before m) all ∙ rows_all m
