use Rattle.enc_merged_delta.proofs.KeptByBoth.{keeps_updates}
use Rattle.enc_merged_delta.proofs.rules.altered_cell_law.Goals as goal

pub returns : goal.returns
returns c = keeps_updates
