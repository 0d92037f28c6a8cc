use Rattle.enc_merged_delta.proofs.MeansBoth.{merged_means}
use Rattle.enc_merged_delta.proofs.laws.merged_means_law.Goals as goal

pub returns : goal.returns
returns c = merged_means
