use Rattle.std.proofs.Common.{◌≡◌, ℕ, ◌+◌, ◌-◌, ◌<◌}
use Rattle.enc_base.specs.Token.{number_of}
use Rattle.enc_delta.specs.Delta.{map_token, delta_source}
use Rattle.enc_delta.proofs.open.is_rising.Given as goal

-- so far the numbers rise, and the next has to reach one more than the last, or 0
abbrev pub invariant-loop-i : goal.invariant-loop-i
invariant-loop-i l = record {
  under : (k : ℕ) → k < l.i → number_of (map_token (delta_source l.bytes l.il l.opened.root l.opened.tables) k) < l.least;
  rising : (j k : ℕ) → j < k → k < l.i → number_of (map_token (delta_source l.bytes l.il l.opened.root l.opened.tables) j) < number_of (map_token (delta_source l.bytes l.il l.opened.root l.opened.tables) k);
  none : l.i ≡ 0 → l.least ≡ 0;
  last : 0 < l.i → l.least ≡ number_of (map_token (delta_source l.bytes l.il l.opened.root l.opened.tables) (l.i - 1)) + 1;
}
