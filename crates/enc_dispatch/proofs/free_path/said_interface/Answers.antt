use Rattle.std.proofs.Common.{refl, sym, ◌∙◌, arith}
use Rattle.enc_base.proofs.First.{first_found}
use Rattle.enc_dispatch.proofs.free_path.said_interface.Goals as goal

pub returns-in-Some : goal.returns-in-Some
returns-in-Some g c = first_found _ _ c.loop-n.n _ (rw (← c.count-n-end.ensures.count) (omega arith)) c.loop-n.invariant (sym c.in-Some.is ∙ c.says_interface.ensures) refl
