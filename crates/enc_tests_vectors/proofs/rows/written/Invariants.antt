use Rattle.std.proofs.Common.{ℕ}
use Rattle.std.specs.Prelude.{IsTrue}
use Rattle.std.specs.List.{list_all}
use Rattle.enc_rows.specs.Written.{rows_at}
use Rattle.enc_rows.proofs.Small.{small}
use Rattle.enc_tests_vectors.proofs.rows.written.Given as goal

abbrev pub invariant-rows : goal.invariant-rows
invariant-rows l = (k : ℕ) → IsTrue (list_all small (rows_at l.built k))

abbrev pub invariant-times : goal.invariant-times
invariant-times l = (k : ℕ) → IsTrue (list_all small (rows_at l.built k))
