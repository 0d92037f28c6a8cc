use Rattle.enc_ppdb.specs.Written.{documents_of}
use Rattle.enc_ppdb.specs.Holding.{IsWritten}
use Rattle.enc_ppdb.proofs.parts.written.Given as goal

abbrev pub invariant-loop-n : goal.invariant-loop-n
invariant-loop-n g l = IsWritten (g.P.PointSource.debug l.source) l.n l.n 0 (g.P.PointSource.placed l.source) (documents_of (g.P.PointSource.debug l.source) l.n) l.writer
