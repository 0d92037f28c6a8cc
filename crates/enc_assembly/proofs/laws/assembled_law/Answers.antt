use Rattle.enc_assembly.proofs.Chained.{assembled}
use Rattle.enc_assembly.proofs.laws.assembled_law.Goals as goal

pub returns : goal.returns
returns c = assembled c.code_laws.ensures
