use Rattle.std.proofs.Common.{◌≡◌, ◌++◌}
use Rattle.std.specs.Prelude.{flat_map}
use Rattle.enc_rows.specs.Sums.{below}
use Rattle.enc_rows.specs.Written.{count_written}
use Rattle.enc_rows.proofs.written.push_counts.Given as goal

abbrev pub invariant-loop-table : goal.invariant-loop-table
invariant-loop-table l = l.out.items ≡ l.fn.out.items ++ flat_map (count_written l.tables) (below l.table)
