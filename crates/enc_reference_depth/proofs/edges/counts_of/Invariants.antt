use Rattle.std.proofs.Common.{◌≡◌, ℕ, ◌<◌, length, get_or}
use Rattle.enc_plain.specs.Sound.{row_count}
use Rattle.enc_reference_depth.proofs.edges.counts_of.Given as goal

-- the tables so far are counted
abbrev pub invariant-loop-table : goal.invariant-loop-table
invariant-loop-table g l = (length l.counts.rows ≡ 64) × ((t : ℕ) → t < l.table → get_or l.counts.rows t 0 ≡ row_count (g.V.ModuleView.meaning l.view) t)
