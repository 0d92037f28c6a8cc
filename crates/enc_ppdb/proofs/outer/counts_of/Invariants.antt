use Rattle.std.proofs.Common.{◌≡◌, ℕ, ◌<◌, length, get_or}
use Rattle.enc_ppdb.specs.Pdb.{outer_count}
use Rattle.enc_ppdb.proofs.outer.counts_of.Given as goal

abbrev pub invariant-loop-table : goal.invariant-loop-table
invariant-loop-table l = (length l.rows ≡ 64) × ((k : ℕ) → k < l.table → get_or l.rows k 0 ≡ outer_count l.stream l.bits k)
