use Rattle.enc_list_delta.proofs.MapRules.{keeps_rising}
use Rattle.enc_list_delta.proofs.rules.late_token_law.Goals as goal

pub returns : goal.returns
returns c = keeps_rising
