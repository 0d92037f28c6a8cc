use Rattle.enc_agg.specs.Seen.{module_of_all, users_of_all}
use Rattle.enc_ppdb.specs.PdbChain.{pdb_with}
use Rattle.enc_session.proofs.Turned.{plain_within}
use Rattle.enc_session.proofs.engine.Engine.write_units.Goals as goal

pub returns : goal.returns
returns c =
    let p = c.self.inside.parts in
    rw (← c.self.view_is)
    (plain_within (users_of_all p.joined.rows) (module_of_all p.joined.rows) (pdb_with p.joined.points.base p.joined.points.deltas) p.versions.methods c.write_units.result c.args.task c.self.inside.machine
    c.meaning_laws.ensures.steps (rw c.rows.ensures at c.sound.ensures) c.self.invariant.parts.bodies (rw c.rows-2.ensures at (c.write_units.ensures (users_of_all p.joined.rows) p.versions.methods)))
