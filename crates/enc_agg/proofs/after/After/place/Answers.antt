use Rattle.std.proofs.Common.{sym, ◌∙◌}
use Rattle.enc_agg.proofs.Next.{place_there, place_none}
use Rattle.enc_agg.proofs.after.After.place.Goals as goal

pub returns-in-Some : goal.returns-in-Some
returns-in-Some c = rw (← c.self.view_is) (place_there _ _ _ (sym c.in-Some.is ∙ c.place.ensures ∙ c.self.invariant.own.places c.args.row))

pub returns-in-None : goal.returns-in-None
returns-in-None c = rw (← c.self.view_is) (place_none _ _ _ (c.place.ensures ∙ c.self.invariant.own.places c.args.row) c.in-None.is)
