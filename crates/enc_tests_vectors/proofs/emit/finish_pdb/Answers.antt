use Rattle.std.proofs.Common.{false, ap}
use Rattle.enc_rows.specs.Written.{rows_at}
use Rattle.enc_emit.specs.Written.{Parts}
use Rattle.enc_emit.proofs.Little.{little_same, little_fits, little_pdb_size}
use Rattle.enc_tests_vectors.proofs.emit.finish_pdb.Goals as goal

pub finish_pdb-requires-clause-fit : goal.finish_pdb-requires-clause-fit
finish_pdb-requires-clause-fit c =
    let built : Parts = record { heaps = c.heaps.result.now; rows = c.tables.result.now } in
    little_fits built false (little_same c.args.root built c.requires.little c.heaps.ensures.value (λ k. ap (λ rows. rows_at rows k) c.tables.ensures.value)) c.laws.ensures

pub finish_pdb-requires-clause-size : goal.finish_pdb-requires-clause-size
finish_pdb-requires-clause-size c =
    let built : Parts = record { heaps = c.heaps.result.now; rows = c.tables.result.now } in
    little_pdb_size built c.args.pdb.now (little_same c.args.root built c.requires.little c.heaps.ensures.value (λ k. ap (λ rows. rows_at rows k) c.tables.ensures.value)) c.laws.ensures c.laws-2.ensures.within c.requires.short
