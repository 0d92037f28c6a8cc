use Rattle.std.proofs.Common.{◌≡◌, ℕ, ◌<◌, length, get_or}
use Rattle.enc_rows.specs.Written.{count_at}
use Rattle.enc_rows.proofs.written.counts_of.Given as goal

abbrev pub invariant-loop-table : goal.invariant-loop-table
invariant-loop-table l = (length l.rows ≡ 64) × ((k : ℕ) → k < l.table → get_or l.rows k 0 ≡ count_at l.tables k)
