use Rattle.enc_merged_delta.proofs.ModuleRow.{keeps_base}
use Rattle.enc_merged_delta.proofs.rules.other_base_law.Goals as goal

pub returns : goal.returns
returns c = keeps_base
