use Rattle.enc_list_delta.proofs.BodyRules.{keeps_locals}
use Rattle.enc_list_delta.proofs.rules.bad_locals_law.Goals as goal

pub returns : goal.returns
returns c = keeps_locals
