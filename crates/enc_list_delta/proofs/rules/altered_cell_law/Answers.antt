use Rattle.enc_list_delta.proofs.RowRules.{keeps_updates}
use Rattle.enc_list_delta.proofs.rules.altered_cell_law.Goals as goal

pub returns : goal.returns
returns c = keeps_updates
