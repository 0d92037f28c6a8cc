use Rattle.std.proofs.Common.{refl, sym, ◌∙◌, arith}
use Rattle.enc_base.proofs.First.{first_found}
use Rattle.enc_image.specs.Base.{body_fault}
use Rattle.enc_image.proofs.bodies.body_fault.Goals as goal

pub returns-in-Ok-Some : goal.returns-in-Ok-Some
unfolding body_fault
returns-in-Ok-Some c = first_found _ _ c.loop-r.r _ (rw (← c.count-r-end.ensures.count) (omega arith)) c.loop-r.invariant.none (sym c.in-Ok-Some.field-0-is ∙ c.in-Ok-Some.ensures.place) refl
