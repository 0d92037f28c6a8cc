use Rattle.std.proofs.Common.{◌≡◌, ℕ, ◌/◌, ◌%◌, ◌<◌, length, get_or}
use Rattle.enc_rows.specs.Columns.{width_at}
use Rattle.enc_rows.proofs.columns.sizes_of.Given as goal

abbrev pub invariant-loop-at : goal.invariant-loop-at
invariant-loop-at l = (length l.sizes ≡ 504) × ((k : ℕ) → k < l.at → get_or l.sizes k 0 ≡ width_at l.widths (k / 9) (k % 9))
