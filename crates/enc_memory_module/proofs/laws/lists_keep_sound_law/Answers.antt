use Rattle.enc_memory_module.proofs.NoneBroken.{sound_kept}
use Rattle.enc_memory_module.proofs.laws.lists_keep_sound_law.Goals as goal

pub returns : goal.returns
returns c = λ chain list form none sound. sound_kept chain list form none sound
