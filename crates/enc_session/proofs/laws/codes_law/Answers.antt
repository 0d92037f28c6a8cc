use Rattle.enc_session.proofs.NewBodies.{accepted_bodies_are_new}
use Rattle.enc_session.proofs.laws.codes_law.Goals as goal

pub returns : goal.returns
returns c = accepted_bodies_are_new
