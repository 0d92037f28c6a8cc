use Rattle.std.proofs.Common.{subst, sym}
use Rattle.enc_rewriter.specs.Numbers.{RowSays}
use Rattle.enc_meta.specs.Built.{heaps_built}
use Rattle.enc_plain.proofs.KindsOf.{row_bounds}
use Rattle.enc_rewriter.proofs.RowsPushed.{one_row, few_before}
use Rattle.enc_rewriter.proofs.rows.push_row.Goals as goal

pub push-requires-clause-few : goal.push-requires-clause-few
push-requires-clause-few g c =
    few_before (g.V.ModuleView.meaning c.args.by.now.view.now) (heaps_built c.args.heaps.now) c.args.by.now.placed.now c.args.row c.args.tables.now c.requires.ready.sources.sound c.requires.row c.requires.so_far

pub returns-clause-says : goal.returns-clause-says
returns-clause-says g c =
    one_row (g.V.ModuleView.meaning c.args.by.now.view.now) (heaps_built c.args.heaps.now) c.args.by.now.placed.now c.args.row c.args.tables.now c.push.new.self c.deref.result.now
    (row_bounds (g.V.ModuleView.meaning c.args.by.now.view.now) c.args.row c.requires.row).0 c.requires.so_far (subst (λ xs. RowSays (g.V.ModuleView.meaning c.args.by.now.view.now) (heaps_built c.args.heaps.now) c.args.by.now.placed.now c.args.row xs) (sym c.deref.ensures.value) c.in_ok-cells.ensures.says) c.in_ok-push.ensures.pushed
