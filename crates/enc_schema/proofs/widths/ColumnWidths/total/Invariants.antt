use Rattle.std.proofs.Common.{◌≡◌, ◌*◌, ◌≤◌, take}
use Rattle.std.specs.Prelude.{sum_by}
use Rattle.enc_schema.specs.Widths.{space_of}
use Rattle.enc_schema.proofs.widths.ColumnWidths.total.Given as goal

abbrev pub invariant-loop-column : goal.invariant-loop-column
invariant-loop-column l = (l.sum ≡ sum_by (space_of l.self) (take l.column-index l.columns)) × (l.sum ≤ 4 * l.column-index)
