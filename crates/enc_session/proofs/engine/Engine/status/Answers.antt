use Rattle.std.proofs.Common.{sym, ◌∙◌}
use Rattle.enc_agg.specs.Seen.{users_of_all}
use Rattle.enc_session.proofs.engine.Engine.status.Goals as goal

pub returns : goal.returns
returns c = rw (← c.self.view_is) (c.status.ensures ∙ sym (c.look_laws.ensures.states (users_of_all c.self.inside.parts.joined.rows) c.self.inside.machine c.args.task))
