use Rattle.enc_meta.proofs.BuiltMeanings.{offsets_stay, numbers_stay}
use Rattle.enc_meta.proofs.laws.offsets_stay_law.Goals as goal

pub returns : goal.returns
returns c = record { offsets = offsets_stay; numbers = numbers_stay }
