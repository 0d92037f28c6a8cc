use Rattle.enc_agg.proofs.RowsAndKids.{some_row}
use Rattle.enc_agg.proofs.Next.{all_kids}
use Rattle.enc_agg.proofs.after.AfterModuleView.kid_rows.Goals as goal

pub rows_of_kids-requires-clause-row : goal.rows_of_kids-requires-clause-row
rows_of_kids-requires-clause-row c = some_row _ c.args.owner c.requires.row

pub returns : goal.returns
returns c = rw (← c.self.view_is)
    (all_kids c.self.inside.aggregate.now c.self.inside.ready.now c.args.owner c.args.table _ _ c.self.invariant c.requires.table c.requires.owners
    c.in_ok-rows.ensures c.in_ok-push_kids.ensures)
