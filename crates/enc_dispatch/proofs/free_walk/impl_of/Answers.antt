use Rattle.std.proofs.Common.{refl, sym, ◌∙◌, arith}
use Rattle.enc_base.proofs.First.{first_found}
use Rattle.enc_dispatch.specs.Walks.{impl_of}
use Rattle.enc_dispatch.proofs.free_walk.impl_of.Goals as goal

pub returns-in-Some-clause-given : goal.returns-in-Some-clause-given
unfolding impl_of
returns-in-Some-clause-given g c = first_found _ _ c.loop-n.n _ (rw (← c.count-n-end.ensures.count) (omega arith)) c.loop-n.invariant (sym c.in-Some.is ∙ c.impl_at.ensures.given) refl
