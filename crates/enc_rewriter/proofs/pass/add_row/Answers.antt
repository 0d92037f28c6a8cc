use Rattle.std.proofs.Common.{◌<◌, Err, length, subst}
use Rattle.enc_schema.specs.Schema.{columns_in}
use Rattle.enc_rewriter.specs.Values.{values_at, values_of_row}
use Rattle.enc_rewriter.proofs.Fills.{past_more}
use Rattle.enc_rewriter.proofs.pass.add_row.Goals as goal

pub returns-in-Err-clause-past : goal.returns-in-Err-clause-past
unfolding values_of_row
returns-in-Err-clause-past g c =
    past_more (Err c.in-Err.fault) c.args.pass c.args.heaps.now c.loop-i.heaps (values_at c.args.pass (g.V.ModuleView.meaning c.args.view.now) c.args.row) c.loop-i.i (length (columns_in c.args.row.table)) (subst (λ xs. c.loop-i.i < length xs) c.columns_of-columns.ensures.columns c.loop-i-test.true) c.loop-i.invariant.0 c.in-Err.ensures.past
