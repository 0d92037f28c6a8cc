use Rattle.std.proofs.Common.{sym, arith}
use Rattle.enc_agg.proofs.Generations.{found_place, no_place, few_found}
use Rattle.enc_agg.proofs.earlier.Earlier.place.Goals as goal

pub overflow_cast-result : goal.overflow_cast-result
overflow_cast-result c =
    let few = few_found c.self.inside.image.now c.self.inside.added.now c.args.token _ c.in-Some.found c.self.invariant.deltas.all c.find.ensures c.in-Some.is in
    omega (arith, few)

pub returns-in-Some : goal.returns-in-Some
returns-in-Some c = rw (← c.self.view_is) (sym (found_place c.self.inside.added.now c.args.token _ c.in-Some.found c.find.ensures c.in-Some.is))

pub returns-in-None : goal.returns-in-None
returns-in-None c = rw (← c.self.view_is) (sym (no_place c.self.inside.added.now c.args.token _ c.find.ensures c.in-None.is))
