use Rattle.std.proofs.Common.{◌+◌, refl}
use Rattle.enc_il.specs.Judged.{mark_at}
use Rattle.enc_versions.proofs.Stopped.{one_upto}
use Rattle.enc_versions.proofs.stops.marked_stops.Goals as goal

pub loop-i-preserved : goal.loop-i-preserved
loop-i-preserved c =
    one_upto (mark_at c.args.marks.now) c.args.points.now.points c.loop-i.i (c.loop-i.i + 1) c.point.result c.loop-i.stops c.keep_stop.new.stops refl c.point.ensures
    c.loop-i.invariant c.in_ok-keep_stop.ensures
