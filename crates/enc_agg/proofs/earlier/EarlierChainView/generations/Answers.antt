use Rattle.std.proofs.Common.{arith}
use Rattle.enc_agg.proofs.Histories.{ids_many, heaps_many, few_added}
use Rattle.enc_agg.proofs.earlier.EarlierChainView.generations.Goals as goal

pub overflow_cast-result : goal.overflow_cast-result
overflow_cast-result c = (omega (arith, few_added c.self.inside.image.now c.self.inside.added.now c.self.invariant.deltas.all))

pub overflow_add-result : goal.overflow_add-result
overflow_add-result c = (omega (arith, few_added c.self.inside.image.now c.self.inside.added.now c.self.invariant.deltas.all))

pub returns-clause-count : goal.returns-clause-count
returns-clause-count c = rw (← c.self.view_is) (ids_many c.self.inside.image.now c.self.inside.added.now)

pub returns-clause-heaps : goal.returns-clause-heaps
returns-clause-heaps c = rw (← c.self.view_is) (heaps_many c.self.inside.image.now c.self.inside.added.now)
