use Rattle.std.proofs.Common.{◌<◌, Err, subst}
use Rattle.enc_base.specs.Token.{nth_row}
use Rattle.enc_plain.specs.Sound.{row_count}
use Rattle.enc_rewriter.specs.Values.{values_of_row, values_of_table}
use Rattle.enc_rewriter.proofs.Fills.{past_more}
use Rattle.enc_rewriter.proofs.pass.add_table.Goals as goal

pub returns-in-Err-clause-past : goal.returns-in-Err-clause-past
unfolding values_of_table
returns-in-Err-clause-past g c =
    let m = g.V.ModuleView.meaning c.args.view.now in
    past_more (Err c.in-Err.fault) c.args.pass c.args.heaps.now c.loop-n.heaps (λ n. values_of_row c.args.pass m (nth_row c.args.table n)) c.loop-n.n (row_count m c.args.table)
    (subst (λ k. c.loop-n.n < k) c.count-n-end.ensures.count c.loop-n-test.true) c.loop-n.invariant.0 c.in-Err.ensures.past
