use Rattle.std.proofs.Common.{◌≡◌, ℕ, ◌<◌, length, get_or}
use Rattle.std.specs.Prelude.{reverse}
use Rattle.enc_plain.specs.Module.{rows_in}
use Rattle.enc_agg.specs.Extend.{extended, chain_with}
use Rattle.enc_agg.specs.Seen.{sources}
use Rattle.enc_agg.proofs.aggregate.counts_after.Given as goal

-- the tables so far are counted
abbrev pub invariant-loop-t : goal.invariant-loop-t
invariant-loop-t l = (length l.rows ≡ 64) × ((k : ℕ) → k < l.t → get_or l.rows k 0 ≡ length (rows_in (extended (chain_with l.image (sources (reverse l.added))) l.delta).plain k))
