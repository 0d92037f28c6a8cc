use Rattle.enc_merged_delta.proofs.ModuleRow.{keeps_id}
use Rattle.enc_merged_delta.proofs.rules.id_taken_law.Goals as goal

pub returns : goal.returns
returns c = keeps_id
