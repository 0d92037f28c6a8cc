use Rattle.enc_ppdb.specs.PdbChain.{pdb_with}
use Rattle.enc_session.proofs.engine.Engine.spawn.Goals as goal

pub spawn-requires-clause-versions : goal.spawn-requires-clause-versions
spawn-requires-clause-versions c =
    let p = c.self.inside.parts in
    rw c.rows-2.ensures (pdb_with p.joined.points.base p.joined.points.deltas, c.self.invariant.parts.bodies)

pub returns-clause-spawned : goal.returns-clause-spawned
returns-clause-spawned c =
    let p = c.self.inside.parts in
    rw (← c.self.view_is) ((rw c.rows-2.ensures at c.spawn.ensures.plain) (pdb_with p.joined.points.base p.joined.points.deltas) c.self.invariant.parts.bodies)
