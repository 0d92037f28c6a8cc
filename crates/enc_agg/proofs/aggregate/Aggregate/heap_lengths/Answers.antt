use Rattle.std.proofs.Common.{arith}
use Rattle.enc_agg.proofs.Generations.{first_lengths, later_lengths}
use Rattle.enc_agg.proofs.aggregate.Aggregate.heap_lengths.Goals as goal

pub returns-in-None : goal.returns-in-None
returns-in-None c = rw (← c.self.view_is) (first_lengths c.self.inside.image c.self.inside.added.items c.args.generation _ (omega (arith, c.in-None.ensures)) c.lengths.ensures)

pub returns-in-Some : goal.returns-in-Some
returns-in-Some c = rw (← c.self.view_is) (later_lengths c.self.inside.image c.self.inside.added.items c.args.generation c.in-Some.n _ _ (omega (arith, c.in-Some.ensures)) (rw (← c.self.view_is) at c.requires) c.index.ensures c.lengths-in-Some.ensures)
