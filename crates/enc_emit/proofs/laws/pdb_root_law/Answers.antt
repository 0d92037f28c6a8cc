use Rattle.enc_emit.proofs.Read.{pdb_root_is_read}
use Rattle.enc_emit.proofs.laws.pdb_root_law.Goals as goal

pub returns : goal.returns
returns c = pdb_root_is_read
