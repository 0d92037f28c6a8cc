use Rattle.std.proofs.Common.{◌≡◌, false, take}
use Rattle.std.specs.List.{list_any}
use Rattle.enc_rows.specs.Written.{row_is_wide}
use Rattle.enc_rows.proofs.wide.table_is_wide.Given as goal

abbrev pub invariant-loop-row : goal.invariant-loop-row
invariant-loop-row l = list_any (row_is_wide l.bit l.columns) (take l.row-index l.rows) ≡ false
