use Rattle.enc_list_delta.proofs.Follows.{deltas_are_read}
use Rattle.enc_list_delta.proofs.laws.deltas_are_read_law.Goals as goal

pub returns : goal.returns
returns c = deltas_are_read
