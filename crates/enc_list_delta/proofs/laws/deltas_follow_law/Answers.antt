use Rattle.enc_list_delta.proofs.Follows.{deltas_follow}
use Rattle.enc_list_delta.proofs.laws.deltas_follow_law.Goals as goal

pub returns : goal.returns
returns c = deltas_follow
