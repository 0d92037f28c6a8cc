use Rattle.enc_merged_delta.proofs.SameRows.{rows_are}
use Rattle.enc_merged_delta.proofs.laws.rows_are_of_both_law.Goals as goal

pub returns : goal.returns
returns c = rows_are
