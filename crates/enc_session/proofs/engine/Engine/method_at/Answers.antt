use Rattle.std.proofs.Common.{Some, option_map, sym, ap, ◌∙◌}
use Rattle.enc_agg.specs.Seen.{users_of_all}
use Rattle.enc_versions.specs.Version.{Version}
use Rattle.enc_frames.specs.Machine.{Frame}
use Rattle.enc_session.proofs.Looked.{method_at_meant}
use Rattle.enc_session.proofs.engine.Engine.method_at.Goals as goal

pub returns-in-None : goal.returns-in-None
returns-in-None c =
    let users = users_of_all c.self.inside.parts.joined.rows in
    rw (← c.self.view_is)
    (sym (method_at_meant users c.self.inside.machine c.args.task c.args.i (c.look_laws.ensures.frames users c.self.inside.machine c.args.task c.args.i)
    ∙ ap (option_map (λ (f : Frame Version). f.method)) (sym c.frame.ensures ∙ c.in-None.is)))

pub returns-in-Some : goal.returns-in-Some
returns-in-Some c =
    let users = users_of_all c.self.inside.parts.joined.rows in
    rw (← c.self.view_is)
    (sym (method_at_meant users c.self.inside.machine c.args.task c.args.i (c.look_laws.ensures.frames users c.self.inside.machine c.args.task c.args.i)
    ∙ ap (option_map (λ (f : Frame Version). f.method)) (sym c.frame.ensures ∙ c.in-Some.is) ∙ ap Some (sym c.method.ensures.method)))
