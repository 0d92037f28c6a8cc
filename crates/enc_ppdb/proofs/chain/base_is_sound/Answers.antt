use Rattle.enc_ppdb.proofs.SoundFiles.{no_base_is_sound}
use Rattle.enc_ppdb.proofs.chain.base_is_sound.Goals as goal

pub returns-in-None : goal.returns-in-None
returns-in-None c = rw (c.in-None.is) no_base_is_sound
