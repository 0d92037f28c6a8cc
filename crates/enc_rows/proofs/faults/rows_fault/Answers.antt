use Rattle.std.proofs.Common.{refl, sym, ◌∙◌, arith}
use Rattle.enc_base.proofs.First.{first_found}
use Rattle.enc_rows.specs.Fault.{index_fault_in}
use Rattle.enc_rows.proofs.faults.rows_fault.Goals as goal

pub returns-in-Some : goal.returns-in-Some
unfolding index_fault_in
returns-in-Some c = first_found _ _ c.loop-n.n _ (rw (← c.count-n-end.ensures.count) (omega arith)) c.loop-n.invariant (sym c.in-Some.is ∙ c.row_fault.ensures) refl
