use Rattle.enc_pdb_writer.proofs.Misplaced.{none_is_misplaced}
use Rattle.enc_pdb_writer.proofs.laws.none_is_misplaced_law.Goals as goal

pub returns : goal.returns
returns c = none_is_misplaced
