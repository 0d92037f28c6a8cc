use Rattle.enc_writer.proofs.PdbFollows.{pdbs_follow}
use Rattle.enc_writer.proofs.laws.pdbs_follow_law.Goals as goal

pub returns : goal.returns
returns c = pdbs_follow
