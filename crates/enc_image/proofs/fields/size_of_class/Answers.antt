use Rattle.std.proofs.Common.{refl, sym, ◌∙◌, arith}
use Rattle.enc_base.proofs.First.{first_found}
use Rattle.enc_image.specs.Base.{size_of_class}
use Rattle.enc_image.proofs.fields.size_of_class.Goals as goal

pub returns-in-Some : goal.returns-in-Some
unfolding size_of_class
returns-in-Some c = first_found _ _ c.loop-r.r _ (rw (← c.count-r-end.ensures.count) (omega arith)) c.loop-r.invariant (sym c.in-Some.is ∙ c.layout_size.ensures) refl
