use Rattle.enc_agg.proofs.SoundDeltas.{delta_keeps_sound}
use Rattle.enc_agg.proofs.laws.delta_keeps_sound_law.Goals as goal

pub returns : goal.returns
returns c = delta_keeps_sound
