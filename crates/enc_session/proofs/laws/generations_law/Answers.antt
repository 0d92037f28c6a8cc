use Rattle.enc_session.proofs.GenerationsMean.{other_bodies_stay}
use Rattle.enc_session.proofs.laws.generations_law.Goals as goal

pub returns : goal.returns
returns c = other_bodies_stay
