use Rattle.enc_meta.proofs.Meanings.{text_stands}
use Rattle.enc_meta.proofs.laws.text_law.Goals as goal

pub returns : goal.returns
returns c = text_stands
