use Rattle.enc_emit.proofs.Read.{root_is_read}
use Rattle.enc_emit.proofs.laws.root_law.Goals as goal

pub returns : goal.returns
returns c = root_is_read
