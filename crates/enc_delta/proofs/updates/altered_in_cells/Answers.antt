use Rattle.std.proofs.Common.{refl, sym, ◌∙◌, arith}
use Rattle.enc_base.proofs.First.{first_found}
use Rattle.enc_delta.proofs.updates.altered_in_cells.Goals as goal

pub returns-in-Some : goal.returns-in-Some
returns-in-Some g c = record {
  known = c.altered_at.ensures.known;
  place = first_found _ _ c.loop-i.i _ (rw (← c.columns_of-i-end.ensures.columns) (omega arith)) c.loop-i.invariant.0 (sym c.in-Some.is ∙ c.altered_at.ensures.place) refl;
}
