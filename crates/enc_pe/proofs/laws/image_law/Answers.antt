use Rattle.enc_pe.proofs.Meanings.{images_are_read}
use Rattle.enc_pe.proofs.laws.image_law.Goals as goal

pub returns : goal.returns
returns c = images_are_read
