use Rattle.enc_ppdb.specs.PdbChain.{pdb_with}
use Rattle.enc_session.proofs.engine.Engine.remap.Goals as goal

pub remap-requires-clause-versions : goal.remap-requires-clause-versions
remap-requires-clause-versions c =
    let p = c.self.inside.parts in
    rw c.rows-2.ensures (pdb_with p.joined.points.base p.joined.points.deltas, c.self.invariant.parts.bodies)

pub returns-clause-remapped : goal.returns-clause-remapped
returns-clause-remapped c =
    let p = c.self.inside.parts in
    rw (← c.self.view_is) ((rw c.rows-2.ensures at c.remap.ensures.plain) (pdb_with p.joined.points.base p.joined.points.deltas) c.self.invariant.parts.bodies)
