use Rattle.enc_merged_delta.proofs.MergedFollows.{merged_follows}
use Rattle.enc_merged_delta.proofs.laws.merged_follows_law.Goals as goal

pub returns : goal.returns
returns c = merged_follows
