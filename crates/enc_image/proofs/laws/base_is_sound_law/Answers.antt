use Rattle.enc_image.proofs.SoundBases.{base_is_sound}
use Rattle.enc_image.proofs.laws.base_is_sound_law.Goals as goal

pub returns : goal.returns
returns c = base_is_sound
