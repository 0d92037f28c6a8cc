use Rattle.std.proofs.Common.{refl}
use Rattle.enc_meta.specs.Built.{joined_end}
use Rattle.enc_ppdb.specs.Holding.{heaps_size}
use Rattle.enc_ppdb.proofs.writer.Writer.begin.Goals as goal

pub returns-clause-heaps : goal.returns-clause-heaps
unfolding heaps_size joined_end
returns-clause-heaps c = rw c.in_ok-begin.ensures refl
