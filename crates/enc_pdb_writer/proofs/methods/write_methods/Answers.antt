use Rattle.std.proofs.Common.{◌<◌, replicate, refl, sym, ap, subst, ◌∙◌}
use Rattle.std.specs.Prelude.{◌^◌, false}
use Rattle.enc_emit.specs.Written.{Parts, pdb_root_built, pdb_built_size}
use Rattle.enc_rows.specs.Written.{IndicesFit}
use Rattle.enc_ppdb.specs.Written.{pdb_stream}
use Rattle.enc_pdb_writer.specs.Methods.{SaysMethods}
use Rattle.enc_pdb_writer.proofs.DeltaFits.{delta_root_fits}
use Rattle.enc_pdb_writer.proofs.MethodsSaid.{methods_said}
use Rattle.enc_pdb_writer.proofs.methods.write_methods.Goals as goal

pub finish_pdb-requires-clause-fit : goal.finish_pdb-requires-clause-fit
finish_pdb-requires-clause-fit g c = subst (λ (r : Parts). IndicesFit r.rows false) (sym c.of-root.ensures) c.in-Ok.ensures.fit

pub finish_pdb-requires-clause-size : goal.finish_pdb-requires-clause-size
finish_pdb-requires-clause-size g c =
    let p = g.P.PointSource.debug c.args.source.now in
    subst (λ (r : Parts). pdb_built_size r (replicate 32 0) < 2 ^ 32) (sym c.of-root.ensures)
    (delta_root_fits p c.args.rows.now c.in-Ok.parts.heaps c.in-Ok.parts.tables (replicate 32 0) c.in-Ok.ensures.held c.laws.ensures.good c.laws.ensures.within c.laws-2.ensures c.in-Ok.ensures.documents refl)

pub returns-clause-says : goal.returns-clause-says
unfolding pdb_stream
returns-clause-says g c =
    let p = g.P.PointSource.debug c.args.source.now in
    let rows = c.args.rows.now in
    let h = c.in-Ok.parts.heaps in
    let tables = c.in-Ok.parts.tables in
    let held = c.in-Ok.ensures.held in
    let small = delta_root_fits p rows h tables (pdb_stream 0) held c.laws.ensures.good c.laws.ensures.within c.laws-2.ensures c.in-Ok.ensures.documents refl in
    let bytes = c.in_ok-bytes.ensures ∙ ap (λ (r : Parts). pdb_root_built r (pdb_stream 0)) c.of-root.ensures in
    subst (SaysMethods p rows) (sym bytes) (methods_said p rows h tables c.requires.sound c.requires.short held c.laws.ensures.good c.laws-2.ensures c.in-Ok.ensures.fit small)
