use Rattle.std.proofs.Common.{refl}
use Rattle.enc_script.proofs.running.Running.begin.Goals as goal

pub returns : goal.returns
returns g c = rw (c.in_ok-begin.ensures, c.from_vec.ensures) refl
