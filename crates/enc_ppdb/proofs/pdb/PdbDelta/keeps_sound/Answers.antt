use Rattle.enc_ppdb.proofs.SoundFiles.{delta_keeps_sound}
use Rattle.enc_ppdb.proofs.pdb.PdbDelta.keeps_sound.Goals as goal

pub returns : goal.returns
returns c = rw (← c.self.view_is) (delta_keeps_sound c.self.inside.file c.self.invariant.good)
