use Rattle.enc_il.proofs.BodiesWritten.{bodies_are_read}
use Rattle.enc_il.proofs.laws.written_body_law.Goals as goal

pub returns : goal.returns
returns c = bodies_are_read
