use Rattle.enc_list_delta.proofs.ModuleRules.{keeps_base}
use Rattle.enc_list_delta.proofs.rules.other_base_law.Goals as goal

pub returns : goal.returns
returns c = keeps_base
