use Rattle.enc_agg.proofs.earlier.Earlier.sound.Goals as goal

pub returns : goal.returns
returns c = rw (← c.self.view_is) c.self.invariant.sound
