use Rattle.enc_reference_depth.proofs.Members.{twins_are_mutual}
use Rattle.enc_reference_depth.proofs.laws.twins_are_mutual_law.Goals as goal

pub returns : goal.returns
returns c = twins_are_mutual
