use Rattle.enc_ppdb.proofs.SoundFiles.{base_is_sound}
use Rattle.enc_ppdb.proofs.pdb.Pdb.sound.Goals as goal

pub returns : goal.returns
returns c = rw (← c.self.view_is) (base_is_sound c.self.inside.file c.self.invariant)
