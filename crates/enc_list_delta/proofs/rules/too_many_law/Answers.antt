use Rattle.enc_list_delta.proofs.MapRules.{keeps_few}
use Rattle.enc_list_delta.proofs.rules.too_many_law.Goals as goal

pub returns : goal.returns
returns c = keeps_few
