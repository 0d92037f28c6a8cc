use Rattle.std.proofs.Common.{rules, Some, None, sym}
use Rattle.enc_frames.proofs.Lines.{none_found, point_found}
use Rattle.enc_frames.proofs.line.line_in.Goals as goal

pub returns-in-None : goal.returns-in-None
returns-in-None c = sym (none_found c.args.offset c.args.points.now.points c.rising.ensures (search rules))

pub returns-in-None-lines : goal.returns-in-None-lines
returns-in-None-lines c =
    sym (point_found c.args.offset c.args.points.now.points c.in-Some.point None c.rising.ensures (search rules) (search rules))

pub returns-in-Some-lines : goal.returns-in-Some-lines
returns-in-Some-lines c =
    sym (point_found c.args.offset c.args.points.now.points c.in-Some.point (Some c.in-Some-lines.lines) c.rising.ensures (search rules) (search rules))
