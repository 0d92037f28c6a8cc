use Rattle.enc_pe.proofs.Meanings.{range_is_front}
use Rattle.enc_pe.proofs.laws.range_law.Goals as goal

pub returns : goal.returns
returns c = range_is_front
