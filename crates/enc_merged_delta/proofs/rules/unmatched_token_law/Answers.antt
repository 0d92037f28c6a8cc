use Rattle.enc_merged_delta.proofs.LogSets.{keeps_sets}
use Rattle.enc_merged_delta.proofs.rules.unmatched_token_law.Goals as goal

pub returns : goal.returns
returns c = keeps_sets
