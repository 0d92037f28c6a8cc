use Rattle.enc_agg.proofs.RowsAndKids.{some_row}
use Rattle.enc_agg.proofs.earlier.EarlierModuleView.kids.Goals as goal

pub count_kids-requires-clause-row : goal.count_kids-requires-clause-row
count_kids-requires-clause-row c = some_row _ c.args.owner c.requires.row
