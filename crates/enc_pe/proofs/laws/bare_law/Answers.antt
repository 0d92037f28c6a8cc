use Rattle.enc_pe.proofs.Meanings.{bare_has_none}
use Rattle.enc_pe.proofs.laws.bare_law.Goals as goal

pub returns : goal.returns
returns c = bare_has_none
