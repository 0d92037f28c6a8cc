use Rattle.enc_list_delta.proofs.RowRules.{keeps_indices}
use Rattle.enc_list_delta.proofs.rules.bad_index_law.Goals as goal

pub returns : goal.returns
returns c = keeps_indices
