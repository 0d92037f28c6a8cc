use Rattle.enc_meta.proofs.Meanings.{padded_is_least}
use Rattle.enc_meta.proofs.laws.padded_law.Goals as goal

pub returns : goal.returns
returns c = padded_is_least
