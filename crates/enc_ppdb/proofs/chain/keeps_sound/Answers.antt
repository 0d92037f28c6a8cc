use Rattle.enc_ppdb.proofs.SoundFiles.{nothing_keeps_sound}
use Rattle.enc_ppdb.proofs.chain.keeps_sound.Goals as goal

pub returns-in-None : goal.returns-in-None
returns-in-None c = rw (c.in-None.is) nothing_keeps_sound
