use Rattle.std.proofs.Common.{◌≡◌, take}
use Rattle.enc_seqpoints.specs.declared.point.Point.{Point}
use Rattle.enc_ppdb.specs.Seen.{end_by}
use Rattle.enc_ppdb.proofs.ends.end_of.Given as goal

abbrev pub invariant-loop-i : goal.invariant-loop-i
invariant-loop-i l = l.end ≡ end_by (λ (p : Point). p.offset) (take l.i l.points.points)
