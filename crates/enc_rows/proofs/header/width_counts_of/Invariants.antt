use Rattle.std.proofs.Common.{◌≡◌, ℕ, ◌<◌, length, get_or}
use Rattle.enc_rows.specs.Layout.{width_count}
use Rattle.enc_rows.proofs.header.width_counts_of.Given as goal

abbrev pub invariant-loop-table : goal.invariant-loop-table
invariant-loop-table l = (length l.rows ≡ 64) × ((k : ℕ) → k < l.table → get_or l.rows k 0 ≡ width_count l.stream l.valid l.outer.rows k)
