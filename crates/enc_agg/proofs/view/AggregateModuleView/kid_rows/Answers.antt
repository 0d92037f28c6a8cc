use Rattle.enc_agg.proofs.RowsAndKids.{some_row}
use Rattle.enc_agg.proofs.view.AggregateModuleView.kid_rows.Goals as goal

pub rows_of_kids-requires-clause-row : goal.rows_of_kids-requires-clause-row
rows_of_kids-requires-clause-row c = some_row _ c.args.owner c.requires.row
