use Rattle.enc_list_delta.proofs.ModuleRules.{keeps_module}
use Rattle.enc_list_delta.proofs.rules.other_module_law.Goals as goal

pub returns : goal.returns
returns c = keeps_module
