use Rattle.enc_merged_delta.proofs.ModuleRow.{keeps_next}
use Rattle.enc_merged_delta.proofs.rules.not_next_law.Goals as goal

pub returns : goal.returns
returns c = keeps_next
