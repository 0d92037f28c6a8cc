use Rattle.std.proofs.Common.{refl, sym, ◌∙◌, arith}
use Rattle.enc_base.proofs.First.{first_found}
use Rattle.enc_image.specs.Base.{signature_fault}
use Rattle.enc_image.proofs.signatures.signature_fault.Goals as goal

pub returns-in-Ok-Some : goal.returns-in-Ok-Some
unfolding signature_fault
returns-in-Ok-Some c = first_found _ _ c.loop-table.table _ (omega arith) c.loop-table.invariant (sym c.in-Ok-Some.field-0-is ∙ c.in-Ok-Some.ensures) refl
