use Rattle.std.proofs.Common.{◌≡◌, ◌++◌}
use Rattle.std.specs.Prelude.{flat_map}
use Rattle.enc_rows.specs.Sums.{below}
use Rattle.enc_rows.specs.Written.{table_written}
use Rattle.enc_rows.proofs.written.push_tables.Given as goal

abbrev pub invariant-loop-table : goal.invariant-loop-table
invariant-loop-table l = l.out.items ≡ l.fn.out.items ++ flat_map (table_written l.tables l.widths) (below l.table)
