use Rattle.enc_reference_depth.proofs.Members.{twins_last}
use Rattle.enc_reference_depth.proofs.laws.twins_last_law.Goals as goal

pub returns : goal.returns
returns c = twins_last
