use Rattle.std.proofs.Common.{refl, sym, ◌∙◌, arith}
use Rattle.enc_base.proofs.First.{first_found}
use Rattle.enc_delta.proofs.cells.first_fault.Goals as goal

pub returns-in-Some : goal.returns-in-Some
returns-in-Some g c = first_found _ _ c.loop-table.table _ (omega arith) c.loop-table.invariant (sym c.in-Some.is ∙ c.table_fault.ensures) refl
