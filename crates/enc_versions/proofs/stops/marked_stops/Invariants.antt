use Rattle.enc_il.specs.Judged.{mark_at}
use Rattle.enc_versions.proofs.Stopped.{AreStopsUpto}
use Rattle.enc_versions.proofs.stops.marked_stops.Given as goal

abbrev pub invariant-loop-i : goal.invariant-loop-i
invariant-loop-i l = AreStopsUpto (mark_at l.marks) l.points.points l.i l.stops
