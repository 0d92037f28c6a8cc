use Rattle.std.proofs.Common.{◌≡◌, ℕ, ◌*◌, ◌<◌, ◌≤◌, length, get_or}
use Rattle.enc_delta.specs.Delta.{delta_source}
use Rattle.enc_delta.specs.Starts.{lesser_in}
use Rattle.enc_delta.proofs.starts.starts_in.Given as goal

-- the starts so far are filled, and the next is no less than the last
abbrev pub invariant-loop-table : goal.invariant-loop-table
invariant-loop-table l = record {
  whole : length l.starts ≡ 65;
  filled : (k : ℕ) → k < l.table → get_or l.starts k 0 ≡ lesser_in (delta_source l.bytes l.il l.opened.root l.opened.tables) (k * 0x1000000);
  behind : l.start ≤ lesser_in (delta_source l.bytes l.il l.opened.root l.opened.tables) (l.table * 0x1000000);
}
