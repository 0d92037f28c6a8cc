use Rattle.enc_list_delta.proofs.LogRulesSets.{keeps_sets}
use Rattle.enc_list_delta.proofs.rules.unmatched_token_law.Goals as goal

pub returns : goal.returns
returns c = keeps_sets
