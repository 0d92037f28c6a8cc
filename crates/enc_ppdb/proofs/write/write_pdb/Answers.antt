use Rattle.std.proofs.Common.{◌≡◌, ◌<◌, ◌∙◌, sym, ap, subst, length, arith}
use Rattle.std.specs.Prelude.{◌^◌}
use Rattle.enc_emit.specs.Written.{Parts, pdb_root_built, pdb_built_size}
use Rattle.enc_ppdb.specs.Written.{pdb_stream, WritesPdb}
use Rattle.enc_ppdb.proofs.PdbFits.{root_fits, root_light, stream_length}
use Rattle.enc_ppdb.proofs.PdbRead.{entry_is_told}
use Rattle.enc_ppdb.proofs.write.write_pdb.Goals as goal

pub finish_pdb-requires-clause-size : goal.finish_pdb-requires-clause-size
finish_pdb-requires-clause-size g c =
    let p = g.P.PointSource.debug c.args.source.now in
    let stream = c.deref.result.now in
    let long : length stream ≡ 32 = ap length (c.deref.ensures.value ∙ c.in_ok-stream.ensures) ∙ stream_length c.args.entry in
    subst (λ (r : Parts). pdb_built_size r stream < 2 ^ 32) (sym c.of-root.ensures)
    (root_fits p c.args.methods c.in-Ok.parts.heaps c.in-Ok.parts.tables stream c.in-Ok.ensures.held c.laws.ensures.good c.laws.ensures.within c.laws-2.ensures c.in-Ok.ensures.documents c.requires.few long)

pub returns-clause-written : goal.returns-clause-written
returns-clause-written g c =
    let p = g.P.PointSource.debug c.args.source.now in
    let h = c.in-Ok.parts.heaps in
    let rows = c.in-Ok.parts.tables in
    let stream = c.deref.result.now in
    let is : stream ≡ pdb_stream c.args.entry = c.deref.ensures.value ∙ c.in_ok-stream.ensures in
    let few : c.args.entry < 2 ^ 32 = omega arith in
    let size = root_fits p c.args.methods h rows (pdb_stream c.args.entry) c.in-Ok.ensures.held c.laws.ensures.good c.laws.ensures.within c.laws-2.ensures c.in-Ok.ensures.documents c.requires.few (stream_length c.args.entry) in
    let bytes = c.in_ok-bytes.ensures ∙ ap (λ (r : Parts). pdb_root_built r stream) c.of-root.ensures ∙ ap (λ s. pdb_root_built (record { heaps = h; rows = rows }) s) is in
    subst (λ b. WritesPdb p c.args.methods c.args.entry b) (sym bytes) (record {
      means = c.pdb_means_law.ensures p c.args.methods c.args.entry h rows c.requires.sound c.requires.within c.laws.ensures.good c.laws-2.ensures c.in-Ok.ensures.fit c.in-Ok.ensures.held size;
      entry_is = entry_is_told h rows c.args.entry c.laws.ensures.good few size;
      light = root_light p c.args.methods h rows (pdb_stream c.args.entry) c.in-Ok.ensures.held c.laws.ensures.good c.laws-2.ensures (stream_length c.args.entry) c.in-Ok.ensures.size;
    })
