use Rattle.enc_token_map.proofs.Kept.{stays_sound, keeps_texts}
use Rattle.enc_token_map.proofs.laws.moved_body_law.Goals as goal

pub returns-clause-sound : goal.returns-clause-sound
returns-clause-sound c = stays_sound

pub returns-clause-texts : goal.returns-clause-texts
returns-clause-texts c = keeps_texts
