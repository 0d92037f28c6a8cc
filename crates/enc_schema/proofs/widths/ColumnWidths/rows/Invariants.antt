use Rattle.std.proofs.Common.{◌≡◌, ℕ, ◌<◌, length, get_or}
use Rattle.enc_schema.specs.Widths.{row_width}
use Rattle.enc_schema.proofs.widths.ColumnWidths.rows.Given as goal

abbrev pub invariant-loop-table : goal.invariant-loop-table
invariant-loop-table l = (length l.rows ≡ 56) × ((k : ℕ) → k < l.table → get_or l.rows k 0 ≡ row_width l.self k)
