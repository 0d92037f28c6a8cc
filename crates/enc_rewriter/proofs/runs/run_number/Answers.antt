use Rattle.enc_plain.proofs.KindsOf.{row_bounds}
use Rattle.enc_rewriter.proofs.runs.run_number.Goals as goal

pub overflow_sub-result : goal.overflow_sub-result
overflow_sub-result g c = (row_bounds (g.V.ModuleView.meaning c.args.view.now) c.args.row c.requires.row).0
