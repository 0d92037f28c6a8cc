use Rattle.enc_rows.proofs.Small.{small_fits}
use Rattle.enc_tests_vectors.proofs.rows.written.Goals as goal

pub finish-requires : goal.finish-requires
finish-requires c = record { fit = small_fits _ _ _ c.laws.ensures c.rows.invariant }
