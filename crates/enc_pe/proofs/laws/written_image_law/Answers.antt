use Rattle.enc_pe.proofs.ImagesRead.{image_is_read}
use Rattle.enc_pe.proofs.laws.written_image_law.Goals as goal

pub returns : goal.returns
returns c = image_is_read
