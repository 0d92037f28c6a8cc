use Rattle.enc_rows.proofs.CellsRead.{number_read}
use Rattle.enc_rows.proofs.laws.cells_law.Goals as goal

pub returns : goal.returns
returns c = λ all span jtd flags table n i cells x rows fit low row cell. number_read all span jtd flags table n i cells x rows fit row cell
