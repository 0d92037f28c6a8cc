use Rattle.std.proofs.Common.{sym, ap, ◌∙◌, Some}
use Rattle.enc_agg.specs.Seen.{users_of_all}
use Rattle.enc_session.proofs.Lined.{no_values, values_meant}
use Rattle.enc_session.proofs.engine.Engine.values.Goals as goal

pub returns-in-None : goal.returns-in-None
returns-in-None c =
    let users = users_of_all c.self.inside.parts.joined.rows in let m = c.self.inside.machine in
    rw (← c.self.view_is)
    (sym (no_values users m c.args.task c.args.i c.args.part (c.look_laws.ensures.frames users m c.args.task c.args.i) (sym c.frame.ensures ∙ c.in-None.is)))

pub returns-in-Some : goal.returns-in-Some
returns-in-Some c =
    let users = users_of_all c.self.inside.parts.joined.rows in let m = c.self.inside.machine in
    rw (← c.self.view_is)
    (ap Some c.held_in.ensures
    ∙ sym (values_meant users m c.args.task c.args.i c.args.part c.in-Some.frame (c.look_laws.ensures.frames users m c.args.task c.args.i)
    (sym c.frame.ensures ∙ c.in-Some.is)))
