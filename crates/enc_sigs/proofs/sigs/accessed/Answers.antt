use Rattle.std.proofs.Common.{arith}
use Rattle.enc_sigs.proofs.Many.{many_few}
use Rattle.enc_sigs.proofs.sigs.accessed.Goals as goal

pub returns-clause-few : goal.returns-clause-few
returns-clause-few c = many_few _ _ _ _ _ c.in-Some.ensures.few (rw (c.in-Ok.ensures, c.new.ensures.items) (omega arith)) c.many_elems.ensures
