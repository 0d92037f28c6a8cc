use Rattle.enc_merged_delta.proofs.NumbersHeld.{numbers_are_held}
use Rattle.enc_merged_delta.proofs.laws.numbers_are_held_law.Goals as goal

pub returns : goal.returns
returns c = numbers_are_held
