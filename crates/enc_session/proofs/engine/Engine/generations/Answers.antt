use Rattle.enc_session.proofs.Committed.{generation_is}
use Rattle.enc_session.proofs.engine.Engine.generations.Goals as goal

pub returns : goal.returns
returns c =
    let p = c.self.inside.parts in
    rw (← c.self.view_is) (generation_is p.joined.rows.base p.joined.rows.deltas c.generations.result (rw c.rows.ensures at c.generations.ensures.heaps))
