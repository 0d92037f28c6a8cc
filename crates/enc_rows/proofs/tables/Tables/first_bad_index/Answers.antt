use Rattle.std.proofs.Common.{refl, arith}
use Rattle.enc_base.proofs.First.{first_found}
use Rattle.enc_rows.specs.Fault.{index_fault}
use Rattle.enc_rows.proofs.tables.Tables.first_bad_index.Goals as goal

pub returns-in-Ok-Some : goal.returns-in-Ok-Some
unfolding index_fault
returns-in-Ok-Some c = first_found _ _ c.loop-table.table _ (omega arith) c.loop-table.invariant (rw c.in-Ok-Some.field-0-is at c.in-Ok-Some.ensures) refl
