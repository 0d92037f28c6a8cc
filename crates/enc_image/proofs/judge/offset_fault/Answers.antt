use Rattle.std.proofs.Common.{refl, sym, ◌∙◌, arith}
use Rattle.enc_base.proofs.First.{first_found}
use Rattle.enc_image.specs.Base.{offset_fault}
use Rattle.enc_image.proofs.judge.offset_fault.Goals as goal

pub returns-in-Some : goal.returns-in-Some
unfolding offset_fault
returns-in-Some c = first_found _ _ c.loop-table.table _ (omega arith) c.loop-table.invariant (sym c.in-Some.is ∙ c.offset_fault_in.ensures) refl
