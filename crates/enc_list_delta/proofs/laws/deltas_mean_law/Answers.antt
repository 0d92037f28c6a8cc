use Rattle.enc_list_delta.proofs.Means.{deltas_mean}
use Rattle.enc_list_delta.proofs.laws.deltas_mean_law.Goals as goal

pub returns : goal.returns
returns c = deltas_mean
