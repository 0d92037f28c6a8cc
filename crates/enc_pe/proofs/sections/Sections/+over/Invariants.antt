use Rattle.std.proofs.Common.{length}
use Rattle.enc_pe.proofs.sections.Sections.+over.Given as goal

abbrev pub decreases-over : goal.decreases-over
decreases-over l = length l.list.now
