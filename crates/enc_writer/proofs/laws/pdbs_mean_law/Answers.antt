use Rattle.enc_writer.proofs.PdbMeans.{pdbs_mean}
use Rattle.enc_writer.proofs.laws.pdbs_mean_law.Goals as goal

pub returns : goal.returns
returns c = pdbs_mean
