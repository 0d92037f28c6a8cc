use Rattle.enc_pdb_writer.proofs.Edited.{pdbs_are_edited}
use Rattle.enc_pdb_writer.proofs.laws.pdbs_are_edited_law.Goals as goal

pub returns : goal.returns
returns c = pdbs_are_edited
