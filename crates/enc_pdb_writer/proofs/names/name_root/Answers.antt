use Rattle.std.proofs.Common.{◌<◌, ◌∙◌, sym, ap, subst, refl, replicate}
use Rattle.std.specs.Prelude.{◌^◌}
use Rattle.enc_emit.specs.Written.{Parts, pdb_root_built, pdb_built_size}
use Rattle.enc_pdb_writer.proofs.NameRoot.{names_fit, names_read, read_ok, heaps_read}
use Rattle.enc_pdb_writer.proofs.names.name_root.Goals as goal

pub finish_pdb-requires-clause-size : goal.finish_pdb-requires-clause-size
finish_pdb-requires-clause-size c =
    subst (λ (r : Parts). pdb_built_size r (replicate 32 0) < 2 ^ 32) (sym c.of-root.ensures)
    (names_fit c.args.heaps c.begin.result (replicate 32 0) c.begin.ensures c.requires c.laws.ensures.good c.laws.ensures.within refl)

pub returns-clause-root : goal.returns-clause-root
returns-clause-root c =
    let h = c.args.heaps in
    let rows = c.begin.result in
    let zeros = replicate 32 0 in
    let r = names_read h rows zeros c.pdb_root_law.ensures c.laws.ensures.good (names_fit h rows zeros c.begin.ensures c.requires c.laws.ensures.good c.laws.ensures.within refl) in
    read_ok c.in_ok-bytes.bytes.items (pdb_root_built (record { heaps = h; rows = rows }) zeros) (r.0)
    (c.in_ok-bytes.ensures ∙ ap (λ (p : Parts). pdb_root_built p zeros) c.of-root.ensures) (r.1)

pub returns-clause-heaps : goal.returns-clause-heaps
returns-clause-heaps c = λ any here.
    let h = c.args.heaps in
    let rows = c.begin.result in
    let zeros = replicate 32 0 in
    let r = names_read h rows zeros c.pdb_root_law.ensures c.laws.ensures.good (names_fit h rows zeros c.begin.ensures c.requires c.laws.ensures.good c.laws.ensures.within refl) in
    heaps_read h c.in_ok-bytes.bytes.items (pdb_root_built (record { heaps = h; rows = rows }) zeros) (r.0) any
    (c.in_ok-bytes.ensures ∙ ap (λ (p : Parts). pdb_root_built p zeros) c.of-root.ensures) (r.1) (r.2) here
