use Rattle.enc_agg.proofs.FirstDeltas.{one_row_more}
use Rattle.enc_agg.proofs.RowsAndKids.{some_row}
use Rattle.enc_agg.proofs.earlier.EarlierModuleView.kid_rows.Goals as goal

pub count_kids-i-end-requires-clause-row : goal.count_kids-i-end-requires-clause-row
count_kids-i-end-requires-clause-row c = some_row _ c.args.owner c.requires.row

pub kid_row-requires-clause-row : goal.kid_row-requires-clause-row
kid_row-requires-clause-row c = some_row _ c.args.owner c.requires.row

pub loop-i-preserved : goal.loop-i-preserved
loop-i-preserved c = rw (← c.self.view_is) (one_row_more _ _ _ c.loop-i.i _ _ _ _ (c.self.invariant.children.kids c.args.owner c.args.table c.requires.table)
    (rw (← c.self.view_is) at c.count_kids-i-end.ensures) c.loop-i-test.true c.kid_row.ensures (rw (← c.self.view_is) at c.loop-i.invariant) c.in_ok-push.ensures.items)
