use Rattle.std.proofs.Common.{◌≡◌, ℕ, ◌<◌, length, get_or}
use Rattle.enc_rules.specs.Listed.{count_after}
use Rattle.enc_rules.proofs.rows.counts_of.Given as goal

abbrev pub invariant-loop-table : goal.invariant-loop-table
invariant-loop-table g l = ((t : ℕ) → t < l.table → get_or l.counts.rows t 0 ≡ count_after (g.C.ChainView.chain l.chain) l.added t) × (length l.counts.rows ≡ 64)
