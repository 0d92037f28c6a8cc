use Rattle.enc_rows.proofs.Layouts.{stream_read}
use Rattle.enc_rows.proofs.laws.stream_law.Goals as goal

pub returns : goal.returns
returns c = λ all span form jtd flags rows low allowed. stream_read all span form jtd flags rows allowed
