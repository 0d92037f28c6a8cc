use Rattle.std.proofs.Common.{◌≡◌, true}
use Rattle.std.specs.List.{list_all}
use Rattle.enc_rows.specs.Sums.{below}
use Rattle.enc_rows.specs.Layout.{is_expected}
use Rattle.enc_rows.proofs.header.has_pdb_tables_alone.Given as goal

abbrev pub invariant-loop-table : goal.invariant-loop-table
invariant-loop-table l = list_all (is_expected l.valid) (below l.table) ≡ true
