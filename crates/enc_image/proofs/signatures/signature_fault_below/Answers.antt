use Rattle.std.proofs.Common.{refl, sym, ◌∙◌, arith}
use Rattle.enc_base.proofs.First.{first_found}
use Rattle.enc_image.proofs.signatures.signature_fault_below.Goals as goal

pub returns-in-Ok-Some : goal.returns-in-Ok-Some
returns-in-Ok-Some c = first_found _ _ c.loop-r.r _ (rw (← c.count-r-end.ensures.count) (omega arith)) c.loop-r.invariant.none (sym c.in-Ok-Some.field-0-is ∙ c.in-Ok-Some.ensures.place) refl
