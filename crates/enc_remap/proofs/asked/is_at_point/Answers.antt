use Rattle.std.proofs.Common.{sym, ◌∙◌}
use Rattle.enc_versions.proofs.Stopped.{at_point, not_at_point}
use Rattle.enc_remap.proofs.asked.is_at_point.Goals as goal

pub returns-in-Some : goal.returns-in-Some
returns-in-Some c = c.is_some.ensures ∙ sym (at_point c.args.offset c.args.points.now.points c.in-Some.point c.rising.ensures c.in-Some.ensures)

pub returns-in-None : goal.returns-in-None
returns-in-None c = sym (not_at_point c.args.offset c.args.points.now.points c.rising.ensures c.in-None.ensures)
