use Rattle.std.proofs.Common.{◌≡◌, None}
use Rattle.enc_base.specs.Order.{first_below}
use Rattle.enc_rows.specs.Runs.{table_stream}
use Rattle.enc_rows.specs.Fault.{index_fault_at}
use Rattle.enc_rows.proofs.faults.columns_fault.Given as goal

abbrev pub invariant-loop-i : goal.invariant-loop-i
invariant-loop-i l = first_below (index_fault_at (table_stream l.bytes l.tables) l.table l.n) l.i ≡ None
