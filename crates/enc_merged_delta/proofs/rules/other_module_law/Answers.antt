use Rattle.enc_merged_delta.proofs.ModuleRow.{keeps_module}
use Rattle.enc_merged_delta.proofs.rules.other_module_law.Goals as goal

pub returns : goal.returns
returns c = keeps_module
