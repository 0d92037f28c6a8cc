use Rattle.enc_ppdb.specs.KnownAt.{knows}
use Rattle.enc_c.proofs.laws.points_law.Goals as goal

pub returns : goal.returns
returns c = λ s t. knows s.followed.debug s.followed.debugs t
