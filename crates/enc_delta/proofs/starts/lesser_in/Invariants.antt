use Rattle.std.proofs.Common.{◌-◌, ◌<◌, ◌≤◌, ℕ}
use Rattle.enc_base.specs.Token.{number_of}
use Rattle.enc_rows.specs.Layout.{rows_of}
use Rattle.enc_delta.specs.Delta.{map_token, delta_source}
use Rattle.enc_delta.proofs.starts.lesser_in.Given as goal

-- in front of the part that is left all are less, and behind it none is
abbrev pub invariant-loop-low : goal.invariant-loop-low
invariant-loop-low l = record {
  order : l.low ≤ l.high;
  within : l.high ≤ l.fn.range.end;
  less : (i : ℕ) → i < l.low → number_of (map_token (delta_source l.bytes l.il l.opened.root l.opened.tables) i) < l.number;
  rest : (i : ℕ) → l.high ≤ i → i < rows_of l.opened.tables 0x1F → l.number ≤ number_of (map_token (delta_source l.bytes l.il l.opened.root l.opened.tables) i);
}

abbrev pub decreases-loop-low : goal.decreases-loop-low
decreases-loop-low l = l.high - l.low
