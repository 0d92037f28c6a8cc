use Rattle.std.proofs.Common.{refl}
use Rattle.enc_session.specs.Recording.{line_before}
use Rattle.enc_session.proofs.Lined.{line_more}
use Rattle.enc_session.proofs.looks.line_before.Goals as goal

pub loop-i-init : goal.loop-i-init
unfolding line_before
loop-i-init c = refl

pub loop-i-preserved : goal.loop-i-preserved
loop-i-preserved c =
    line_more c.args.offset c.loop-i.i c.args.points.now.points c.point.result c.loop-i.line c.line_of_point.result c.later-line.result
    c.point.ensures c.loop-i.invariant c.line_of_point.ensures c.later-line.ensures
