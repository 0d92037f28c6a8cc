use Rattle.enc_image.proofs.SoundBases.{base_is_sound}
use Rattle.enc_image.proofs.image.Image.sound.Goals as goal

pub returns-clause-sound : goal.returns-clause-sound
returns-clause-sound c = rw (← c.self.view_is) (base_is_sound c.self.inside.bytes.items _ c.self.invariant.file c.self.invariant.read)
