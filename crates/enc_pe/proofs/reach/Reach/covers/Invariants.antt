use Rattle.std.proofs.Common.{◌-◌, ℕ, ◌<◌, ◌≤◌, length}
use Rattle.enc_pe.specs.Reach.{corner_at}
use Rattle.enc_pe.proofs.reach.Reach.covers.Given as goal

abbrev pub invariant-loop-low : goal.invariant-loop-low
invariant-loop-low l = record {
  order : l.low ≤ l.high;
  end : l.high ≤ length l.self;
  low : (k : ℕ) → k < l.low → (corner_at l.self k).start ≤ l.first;
  high : (k : ℕ) → l.high ≤ k → k < length l.self → l.first < (corner_at l.self k).start;
}

abbrev pub decreases-loop-low : goal.decreases-loop-low
decreases-loop-low l = l.high - l.low
