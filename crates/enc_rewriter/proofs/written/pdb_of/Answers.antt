use Rattle.enc_rewriter.proofs.Passing.{pdb_told, pdb_within}
use Rattle.enc_rewriter.proofs.written.pdb_of.Goals as goal

pub returns-in-Ok-clause-tells : goal.returns-in-Ok-clause-tells
returns-in-Ok-clause-tells g c = pdb_within (g.V.ModuleView.meaning c.args.view.now) (g.P.PointSource.debug c.args.points.now) c.count.result c.count.ensures.count c.in-Ok.ensures.tells

pub returns-in-Err-clause-tells : goal.returns-in-Err-clause-tells
returns-in-Err-clause-tells g c =
    pdb_told (g.V.ModuleView.meaning c.args.view.now) (g.P.PointSource.debug c.args.points.now) c.count.result c.in-Err.fault c.from.result c.count.ensures.count c.from.ensures c.in-Err.ensures.tells
