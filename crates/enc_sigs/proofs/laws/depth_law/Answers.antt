use Rattle.enc_sigs.proofs.Depth.{depth_bounded}
use Rattle.enc_sigs.proofs.laws.depth_law.Goals as goal

pub returns : goal.returns
returns c = depth_bounded
