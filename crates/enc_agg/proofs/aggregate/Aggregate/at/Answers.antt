use Rattle.std.specs.Prelude.{◌-◌, vec_capacity, vec_len}
use Rattle.enc_agg.proofs.FirstDeltas.{is_earlier, earlier_is}
use Rattle.enc_agg.proofs.aggregate.Aggregate.at.Goals as goal

pub invariant_of-result : goal.invariant_of-result
invariant_of-result c = rw (← c.self.view_is) (is_earlier c.self.inside.image c.self.inside.added.items c.front.result.now c.args.generation _ c.self.inside.directory c.self.inside.places
    (rw c.deref.ensures.value at c.front.ensures) (rw (← c.self.view_is) at c.requires) c.self.invariant)

pub returns : goal.returns
returns c = rw (← c.self.view_is) (earlier_is c.self.inside.image c.self.inside.added.items c.front.result.now c.args.generation (vec_capacity c.self.inside.added - vec_len c.self.inside.added) (rw c.deref.ensures.value at c.front.ensures))
