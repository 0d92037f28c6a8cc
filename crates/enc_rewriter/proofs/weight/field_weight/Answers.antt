use Rattle.enc_rewriter.proofs.Gathers.{row_there}
use Rattle.enc_rewriter.proofs.weight.field_weight.Goals as goal

pub field_bytes-bytes-requires-clause-row : goal.field_bytes-bytes-requires-clause-row
field_bytes-bytes-requires-clause-row g c = row_there (g.V.ModuleView.meaning c.args.view.now) 0x1D c.args.n c.requires.row
