use Rattle.enc_agg.proofs.Judged.{judged_rows, judged_members}
use Rattle.enc_agg.proofs.laws.judged_rows_law.Goals as goal

pub returns : goal.returns
returns c = record { rows = judged_rows; members = judged_members }
