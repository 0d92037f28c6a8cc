use Rattle.enc_agg.proofs.aggregate.Aggregate.sound.Goals as goal

pub returns : goal.returns
returns c = rw (← c.self.view_is) (c.self.invariant.sound 0)
