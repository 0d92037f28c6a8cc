use Rattle.enc_c.proofs.ReasonNumbers.{reasons_law}
use Rattle.enc_c.proofs.laws.numbers_law.Goals as goal

pub returns : goal.returns
returns c = reasons_law
