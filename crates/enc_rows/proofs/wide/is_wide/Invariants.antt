use Rattle.std.proofs.Common.{◌≡◌, false}
use Rattle.std.specs.List.{list_any}
use Rattle.enc_schema.specs.Schema.{columns_in}
use Rattle.enc_rows.specs.Sums.{below}
use Rattle.enc_rows.specs.Written.{rows_at, row_is_wide}
use Rattle.enc_rows.proofs.wide.is_wide.Given as goal

abbrev pub invariant-loop-table : goal.invariant-loop-table
invariant-loop-table l = list_any (λ table. list_any (row_is_wide l.bit (columns_in table)) (rows_at l.tables table)) (below l.table) ≡ false
