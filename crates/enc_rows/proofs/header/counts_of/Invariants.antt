use Rattle.std.proofs.Common.{◌≡◌, ℕ, ◌<◌, length, get_or}
use Rattle.enc_rows.specs.Layout.{count_in}
use Rattle.enc_rows.proofs.header.counts_of.Given as goal

abbrev pub invariant-loop-table : goal.invariant-loop-table
invariant-loop-table l = (length l.rows ≡ 64) × ((k : ℕ) → k < l.table → get_or l.rows k 0 ≡ count_in l.stream l.valid k)
