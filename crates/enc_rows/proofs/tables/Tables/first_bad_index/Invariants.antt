use Rattle.std.proofs.Common.{◌≡◌, None}
use Rattle.enc_base.specs.Order.{first_below}
use Rattle.enc_rows.specs.Runs.{table_stream}
use Rattle.enc_rows.specs.Fault.{index_fault_in}
use Rattle.enc_rows.proofs.tables.Tables.first_bad_index.Given as goal

abbrev pub invariant-loop-table : goal.invariant-loop-table
invariant-loop-table l = first_below (index_fault_in (table_stream l.bytes l.self)) l.table ≡ None
