use Rattle.std.proofs.Common.{refl, sym, ◌∙◌, arith}
use Rattle.enc_base.proofs.First.{first_found}
use Rattle.enc_image.proofs.fields.first_fault.Goals as goal

pub returns-in-Some : goal.returns-in-Some
returns-in-Some c = first_found _ _ c.loop-r.r _ (rw (← c.count-r-end.ensures.count) (omega arith)) c.loop-r.invariant (sym c.in-Some.is ∙ c.field_fault_at.ensures) refl
