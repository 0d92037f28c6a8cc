use Rattle.std.proofs.Common.{refl, sym, ◌∙◌, arith}
use Rattle.enc_base.proofs.First.{first_found}
use Rattle.enc_image.specs.Base.{offset_fault_in}
use Rattle.enc_image.proofs.judge.offset_fault_in.Goals as goal

pub returns-in-Some : goal.returns-in-Some
unfolding offset_fault_in
returns-in-Some c = first_found _ _ c.loop-r.r _ (rw (← c.count-r-end.ensures.count) (omega arith)) c.loop-r.invariant (sym c.in-Some.is ∙ c.offset_fault_in_row.ensures) refl
