use Rattle.std.proofs.Common.{arith}
use Rattle.enc_agg.proofs.Generations.{delta_is}
use Rattle.enc_agg.proofs.aggregate.Aggregate.delta.Goals as goal

pub returns : goal.returns
returns c = rw (← c.self.view_is) (delta_is c.self.inside.added.items c.args.generation c.in_ok-n.n c.in_ok-get.field-0.now (omega (arith, c.in_ok-n.ensures)) (rw c.deref.ensures.value at c.in_ok-get.ensures.lookup.3.0) (rw c.deref.ensures.value at c.in_ok-get.ensures.lookup.1))
