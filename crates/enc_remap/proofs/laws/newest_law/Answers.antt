use Rattle.enc_remap.proofs.Newest.{newest_law}
use Rattle.enc_remap.proofs.laws.newest_law.Goals as goal

pub returns : goal.returns
returns c = newest_law
