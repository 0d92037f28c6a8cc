use Rattle.std.proofs.Common.{refl, sym, ◌∙◌, arith}
use Rattle.enc_base.proofs.First.{first_found}
use Rattle.enc_image.specs.Base.{offset_fault_in_row}
use Rattle.enc_image.proofs.judge.offset_fault_in_row.Goals as goal

pub returns-in-Some : goal.returns-in-Some
unfolding offset_fault_in_row
returns-in-Some c = first_found _ _ c.loop-i.i _ (rw (← c.columns_of-i-end.ensures.columns) (omega arith)) c.loop-i.invariant (sym c.in-Some.is ∙ c.offset_fault_at.ensures) refl
