use Rattle.std.proofs.Common.{sym, ◌∙◌}
use Rattle.enc_versions.proofs.Stopped.{at_point, not_at_point}
use Rattle.enc_versions.proofs.code.Code.is_at_point.Goals as goal

pub returns-in-Some : goal.returns-in-Some
returns-in-Some c =
    rw (← c.self.view_is)
    (c.is_some.ensures ∙ sym (at_point c.args.offset c.self.inside.points.points c.in-Some.point c.rising.ensures c.in-Some.ensures))

pub returns-in-None : goal.returns-in-None
returns-in-None c = rw (← c.self.view_is) (sym (not_at_point c.args.offset c.self.inside.points.points c.rising.ensures c.in-None.ensures))
