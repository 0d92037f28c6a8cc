use Rattle.enc_list_delta.proofs.ModuleRules.{keeps_id}
use Rattle.enc_list_delta.proofs.rules.id_taken_law.Goals as goal

pub returns : goal.returns
returns c = keeps_id
