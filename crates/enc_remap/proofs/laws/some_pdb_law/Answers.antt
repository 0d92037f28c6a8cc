use Rattle.enc_remap.proofs.laws.some_pdb_law.Goals as goal

pub returns : goal.returns
returns c = λ users m methods are. are
