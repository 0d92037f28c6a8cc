use Rattle.std.proofs.Common.{◌-◌, ◌<◌, ◌≤◌, ℕ, length}
use Rattle.std.specs.Prelude.{slice_index}
use Rattle.enc_agg.specs.Starts.{starts}
use Rattle.enc_agg.proofs.heaps.begun.Given as goal

-- the deltas in front of the part that is left have begun, and those behind it haven't
abbrev pub invariant-loop-low : goal.invariant-loop-low
invariant-loop-low l = record {
  order : l.low ≤ l.high;
  within : l.high ≤ length l.added;
  reached : (i : ℕ) → i < l.low → slice_index (starts l.measure l.added) i ≤ l.n;
  past : (i : ℕ) → l.high ≤ i → i < length l.added → l.n < slice_index (starts l.measure l.added) i;
}

abbrev pub decreases-loop-low : goal.decreases-loop-low
decreases-loop-low l = l.high - l.low
