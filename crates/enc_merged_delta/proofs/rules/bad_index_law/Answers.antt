use Rattle.enc_merged_delta.proofs.CellsSaid.{keeps_indices}
use Rattle.enc_merged_delta.proofs.rules.bad_index_law.Goals as goal

pub returns : goal.returns
returns c = keeps_indices
