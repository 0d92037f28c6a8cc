use Rattle.enc_delta.proofs.context.Context.place.Goals as goal

pub returns-in-Some : goal.returns-in-Some
returns-in-Some g c = rw (← c.self.view_is) c.in-Some.ensures
