use Rattle.enc_c.proofs.ReasonNumbers.{words_behind}
use Rattle.enc_c.proofs.laws.words_law.Goals as goal

pub returns : goal.returns
returns c = words_behind
