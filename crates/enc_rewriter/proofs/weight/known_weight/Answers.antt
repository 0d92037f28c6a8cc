use Rattle.enc_rewriter.proofs.Gathers.{row_there}
use Rattle.enc_rewriter.proofs.weight.known_weight.Goals as goal

pub code_place-place-requires-clause-row : goal.code_place-place-requires-clause-row
code_place-place-requires-clause-row g c = row_there (g.V.ModuleView.meaning c.args.view.now) 0x06 c.args.n c.requires.row
