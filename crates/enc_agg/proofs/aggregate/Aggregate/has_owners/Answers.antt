use Rattle.enc_agg.proofs.Histories.{with_sound}
use Rattle.enc_agg.proofs.aggregate.Aggregate.has_owners.Goals as goal

pub returns : goal.returns
returns c = rw (← c.self.view_is) (with_sound c.self.inside.image _ c.self.invariant.deltas.sound c.self.invariant.deltas.all)
