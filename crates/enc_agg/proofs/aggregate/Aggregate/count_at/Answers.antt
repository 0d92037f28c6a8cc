use Rattle.enc_agg.proofs.Generations.{all_upto, sources_upto}
use Rattle.enc_agg.proofs.aggregate.Aggregate.count_at.Goals as goal

pub count_in-requires : goal.count_in-requires
count_in-requires c = rw c.deref.ensures.value (all_upto c.self.inside.image c.self.inside.added.items c.args.generation c.self.invariant.deltas.all)

pub returns : goal.returns
returns c = rw (← c.self.view_is, ← sources_upto c.self.inside.added.items c.args.generation) (rw c.deref.ensures.value at c.count_in.ensures.count)
