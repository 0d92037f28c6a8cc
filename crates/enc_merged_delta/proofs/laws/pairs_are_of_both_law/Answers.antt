use Rattle.enc_merged_delta.proofs.LogPairs.{pairs_are}
use Rattle.enc_merged_delta.proofs.laws.pairs_are_of_both_law.Goals as goal

pub returns : goal.returns
returns c = pairs_are
