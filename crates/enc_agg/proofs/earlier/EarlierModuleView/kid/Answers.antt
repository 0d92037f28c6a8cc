use Rattle.enc_agg.proofs.RowsAndKids.{some_row}
use Rattle.enc_agg.proofs.earlier.EarlierModuleView.kid.Goals as goal

pub kid_row-requires-clause-row : goal.kid_row-requires-clause-row
kid_row-requires-clause-row c = some_row _ c.args.owner c.requires.row
