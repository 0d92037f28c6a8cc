use Rattle.enc_il.proofs.ClausesWritten.{clauses_are_read}
use Rattle.enc_il.proofs.laws.written_clauses_law.Goals as goal

pub returns : goal.returns
returns c = clauses_are_read
