use Rattle.std.proofs.Common.{ap}
use Rattle.enc_rows.specs.Written.{rows_at}
use Rattle.enc_emit.specs.Written.{Parts, has_jtd}
use Rattle.enc_emit.proofs.Little.{little_same, little_fits, little_size}
use Rattle.enc_tests_vectors.proofs.emit.finish.Goals as goal

pub finish-requires-clause-fit : goal.finish-requires-clause-fit
finish-requires-clause-fit c =
    let built : Parts = record { heaps = c.heaps.result.now; rows = c.tables.result.now } in
    little_fits built (has_jtd c.args.form)
    (little_same c.args.root built c.requires c.heaps.ensures.value (λ k. ap (λ rows. rows_at rows k) c.tables.ensures.value)) c.laws.ensures

pub finish-requires-clause-size : goal.finish-requires-clause-size
finish-requires-clause-size c =
    let built : Parts = record { heaps = c.heaps.result.now; rows = c.tables.result.now } in
    little_size built (has_jtd c.args.form)
    (little_same c.args.root built c.requires c.heaps.ensures.value (λ k. ap (λ rows. rows_at rows k) c.tables.ensures.value)) c.laws.ensures c.laws-2.ensures.within
