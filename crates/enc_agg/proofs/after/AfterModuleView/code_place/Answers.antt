use Rattle.std.proofs.Common.{◌<◌, ◌^◌, arith}
use Rattle.enc_agg.proofs.Next.{old_row, old_code_place, old_place_stands, own_code_place, own_place_stands}
use Rattle.enc_agg.proofs.after.AfterModuleView.code_place.Goals as goal

pub place_of_code-requires-clause-row : goal.place_of_code-requires-clause-row
place_of_code-requires-clause-row c = old_row c.self.inside.aggregate.now c.self.inside.ready.now c.args.method _ c.self.invariant
    (rw (← c.self.view_is) at c.place.ensures) c.in_default.is (rw (← c.self.view_is) at c.requires.row)

pub returns-in_default-clause-body : goal.returns-in_default-clause-body
returns-in_default-clause-body c = rw (← c.self.view_is)
    (old_code_place c.self.inside.aggregate.now c.self.inside.ready.now c.args.method _ _ c.self.invariant (rw (← c.self.view_is) at c.place.ensures)
    c.in_default.is c.place_of_code.ensures.body c.place_of_code.ensures.some)

pub returns-in_default-clause-some : goal.returns-in_default-clause-some
returns-in_default-clause-some c = rw (← c.self.view_is)
    (old_place_stands c.self.inside.aggregate.now c.self.inside.ready.now.delta _ c.place_of_code.ensures.some)

pub returns-clause-body : goal.returns-clause-body
returns-clause-body c =
    let low : c.own-own.result < 2 ^ 32 = omega (arith, c.own-own.type_inv) in
    rw (← c.self.view_is, c.place_of_all.ensures)
    (own_code_place c.self.inside.aggregate.now c.self.inside.ready.now c.args.method _ c.own-own.result _ _ c.self.invariant
    (rw (← c.self.view_is) at c.place.ensures) c.in-Some.is c.requires.table (rw (← c.self.view_is) at c.own-own.ensures) low c.generations.ensures.count)

pub returns-clause-some : goal.returns-clause-some
returns-clause-some c =
    let low : c.own-own.result < 2 ^ 32 = omega (arith, c.own-own.type_inv) in
    rw (← c.self.view_is, c.place_of_all.ensures)
    (own_place_stands c.self.inside.aggregate.now c.self.inside.ready.now c.args.method _ c.own-own.result _ _ c.self.invariant
    (rw (← c.self.view_is) at c.place.ensures) c.in-Some.is c.requires.table (rw (← c.self.view_is) at c.own-own.ensures) low c.generations.ensures.count)
