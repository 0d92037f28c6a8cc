use Rattle.std.proofs.Common.{sym}
use Rattle.enc_seqpoints.specs.declared.point.Point.{Point}
use Rattle.enc_ppdb.proofs.PointsEnd.{end_empty, end_step}
use Rattle.enc_ppdb.proofs.ends.end_of.Goals as goal

pub loop-i-init : goal.loop-i-init
loop-i-init c = sym (end_empty (λ (p : Point). p.offset))

pub loop-i-preserved : goal.loop-i-preserved
loop-i-preserved c = end_step (λ (p : Point). p.offset) c.args.points.now.points c.loop-i.i c.point.result c.loop-i.end c.from.result c.max-end.result c.point.ensures c.loop-i.invariant c.from.ensures c.max-end.ensures
