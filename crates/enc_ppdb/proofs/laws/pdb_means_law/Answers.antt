use Rattle.enc_ppdb.proofs.PdbMeant.{pdbs_mean}
use Rattle.enc_ppdb.proofs.laws.pdb_means_law.Goals as goal

pub returns : goal.returns
returns c = pdbs_mean
