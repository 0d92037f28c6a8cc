use Rattle.enc_list_delta.proofs.ModuleRules.{keeps_next}
use Rattle.enc_list_delta.proofs.rules.not_next_law.Goals as goal

pub returns : goal.returns
returns c = keeps_next
