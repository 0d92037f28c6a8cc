use Rattle.std.proofs.Common.{◌≡◌, ℕ, ◌<◌, length, get_or}
use Rattle.enc_delta.specs.Rules.{rows_with}
use Rattle.enc_delta.proofs.known.counts_of.Given as goal

abbrev pub invariant-loop-table : goal.invariant-loop-table
invariant-loop-table g l = ((t : ℕ) → t < l.table → get_or l.counts.rows t 0 ≡ rows_with (g.C.ChainView.chain l.chain) l.tokens t) × (length l.counts.rows ≡ 64)
