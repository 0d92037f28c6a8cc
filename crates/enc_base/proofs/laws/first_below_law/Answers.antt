use Rattle.enc_base.proofs.First.{first_means}
use Rattle.enc_base.proofs.laws.first_below_law.Goals as goal

pub returns : goal.returns
returns g c = λ rule n. first_means rule n
