use Rattle.enc_ppdb.specs.PdbChain.{pdb_with}
use Rattle.enc_session.proofs.engine.Engine.step.Goals as goal

pub step-requires-clause-versions : goal.step-requires-clause-versions
step-requires-clause-versions c =
    let p = c.self.inside.parts in
    rw c.rows-2.ensures (pdb_with p.joined.points.base p.joined.points.deltas, c.self.invariant.parts.bodies)

pub returns-clause-turn : goal.returns-clause-turn
returns-clause-turn c =
    let p = c.self.inside.parts in
    rw (← c.self.view_is) ((rw c.rows-2.ensures at c.step.ensures.plain) (pdb_with p.joined.points.base p.joined.points.deltas) c.self.invariant.parts.bodies)
