use Rattle.std.proofs.Common.{◌≡◌, None}
use Rattle.enc_base.specs.Order.{first_below}
use Rattle.enc_rows.specs.Runs.{table_stream}
use Rattle.enc_rows.specs.Fault.{index_fault_in_row}
use Rattle.enc_rows.proofs.faults.rows_fault.Given as goal

abbrev pub invariant-loop-n : goal.invariant-loop-n
invariant-loop-n l = first_below (index_fault_in_row (table_stream l.bytes l.tables) l.table) l.n ≡ None
