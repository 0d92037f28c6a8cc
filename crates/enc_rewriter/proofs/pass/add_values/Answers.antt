use Rattle.std.proofs.Common.{Err}
use Rattle.enc_rewriter.specs.Values.{values_of_table, all_values}
use Rattle.enc_rewriter.proofs.Fills.{past_more}
use Rattle.enc_rewriter.proofs.pass.add_values.Goals as goal

pub returns-in-Err-clause-past : goal.returns-in-Err-clause-past
unfolding all_values
returns-in-Err-clause-past g c =
    let m = g.V.ModuleView.meaning c.args.view.now in
    past_more (Err c.in-Err.fault) c.args.pass c.args.heaps.now c.loop-table.heaps (values_of_table c.args.pass m) c.loop-table.table 64 c.loop-table-test.true c.loop-table.invariant.0 c.in-Err.ensures.past
