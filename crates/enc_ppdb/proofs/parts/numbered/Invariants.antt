use Rattle.enc_ppdb.specs.Holding.{WrittenUpto, AreNumbered}
use Rattle.enc_ppdb.proofs.parts.numbered.Given as goal

abbrev pub invariant-loop-i : goal.invariant-loop-i
invariant-loop-i g l = WrittenUpto (g.P.PointSource.debug l.source) (g.P.PointSource.placed l.source) l.n l.i l.writer × AreNumbered (g.P.PointSource.debug l.source) l.n l.i l.rows.items
