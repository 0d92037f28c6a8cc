use Rattle.enc_ppdb.proofs.PdbFits.{indices_fit, documents_low, size_within}
use Rattle.enc_ppdb.proofs.PdbHeld.{parts_hold, weight_told}
use Rattle.enc_ppdb.proofs.parts.pdb_parts.Goals as goal

pub returns-clause-held : goal.returns-clause-held
returns-clause-held g c =
    parts_hold (g.P.PointSource.debug c.args.source.now) (g.P.PointSource.placed c.args.source.now) c.args.methods c.in-Ok.writer c.written_laws.ensures.back c.laws.ensures.good c.in-Ok.ensures.so_far

pub returns-clause-tells : goal.returns-clause-tells
returns-clause-tells g c = weight_told (g.P.PointSource.debug c.args.source.now) (g.P.PointSource.placed c.args.source.now) c.args.methods c.in-Ok.writer c.in-Ok.ensures.so_far

pub returns-clause-fit : goal.returns-clause-fit
returns-clause-fit g c = indices_fit (g.P.PointSource.debug c.args.source.now) (g.P.PointSource.placed c.args.source.now) c.args.methods c.in-Ok.writer c.in-Ok.ensures.so_far

pub returns-clause-documents : goal.returns-clause-documents
returns-clause-documents g c = documents_low (g.P.PointSource.debug c.args.source.now) (g.P.PointSource.placed c.args.source.now) c.args.methods c.in-Ok.writer c.in-Ok.ensures.so_far

pub returns-clause-size : goal.returns-clause-size
returns-clause-size g c = size_within (g.P.PointSource.debug c.args.source.now) (g.P.PointSource.placed c.args.source.now) c.args.methods c.in-Ok.writer c.in-Ok.ensures.so_far
