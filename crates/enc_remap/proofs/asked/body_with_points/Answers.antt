use Rattle.std.proofs.Common.{ap, sym, ◌∙◌}
use Rattle.enc_remap.proofs.StoredRules.{no_row_newest}
use Rattle.enc_remap.proofs.asked.body_with_points.Goals as goal

pub returns-then-not-is_row-clause-means : goal.returns-then-not-is_row-clause-means
returns-then-not-is_row-clause-means g c =
    no_row_newest (g.V.ModuleView.meaning c.args.edition.now.view.now) (g.P.PointSource.debug c.args.edition.now.points.now) c.args.method
    (sym c.if-not-is_row.ensures)
