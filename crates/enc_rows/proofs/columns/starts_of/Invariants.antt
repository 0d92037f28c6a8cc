use Rattle.std.proofs.Common.{◌≡◌, ℕ, ◌/◌, ◌%◌, ◌<◌, length, get_or}
use Rattle.enc_schema.specs.Widths.{column_start}
use Rattle.enc_rows.proofs.columns.starts_of.Given as goal

abbrev pub invariant-loop-at : goal.invariant-loop-at
invariant-loop-at l = (length l.starts ≡ 504) × ((k : ℕ) → k < l.at → get_or l.starts k 0 ≡ column_start l.widths (k / 9) (k % 9))
