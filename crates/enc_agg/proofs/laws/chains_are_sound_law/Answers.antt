use Rattle.enc_agg.proofs.SoundDeltas.{chains_are_sound}
use Rattle.enc_agg.proofs.laws.chains_are_sound_law.Goals as goal

pub returns : goal.returns
returns c = chains_are_sound
