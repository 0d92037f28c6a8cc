use Rattle.std.proofs.Common.{rules}
use Rattle.enc_agg.specs.Seen.{users_of_all}
use Rattle.enc_session.proofs.Looked.{state_same}
use Rattle.enc_session.proofs.engine.Engine.push_state.Goals as goal

pub returns-clause-text : goal.returns-clause-text
returns-clause-text c = rw (← c.self.view_is, state_same (users_of_all c.self.inside.parts.joined.rows) c.self.inside.machine) (search rules)
