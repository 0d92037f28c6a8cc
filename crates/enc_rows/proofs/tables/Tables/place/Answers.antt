use Rattle.std.proofs.Common.{arith}
use Rattle.enc_rows.proofs.Places.{cell_place_is, place_facts, column_room}
use Rattle.enc_rows.proofs.tables.Tables.place.Goals as goal

pub overflow_add-result : goal.overflow_add-result
overflow_add-result c =
    let near = rw (← c.self.view_is) at c.requires.near in
    let f = place_facts _ _ c.args.token c.self.invariant (rw (← c.self.view_is) at c.requires.row) in
    rw c.row.ensures.width (omega arith)

pub overflow_add-result-2 : goal.overflow_add-result-2
overflow_add-result-2 c =
    let near = rw (← c.self.view_is) at c.requires.near in
    let f = place_facts _ _ c.args.token c.self.invariant (rw (← c.self.view_is) at c.requires.row) in
    rw c.row.ensures.width (omega (arith, c.start.ensures.few))

pub returns-clause-place : goal.returns-clause-place
returns-clause-place c =
    let f = place_facts _ _ c.args.token c.self.invariant (rw (← c.self.view_is) at c.requires.row) in
    rw (← c.self.view_is) (cell_place_is _ c.args.token c.args.column _ _ _ f.0 c.row.ensures.width c.start.ensures.start)

pub returns-clause-within : goal.returns-clause-within
returns-clause-within c =
    let there = rw (← c.self.view_is) at c.requires.row in
    let f = place_facts _ _ c.args.token c.self.invariant there in
    rw (← c.self.view_is) (column_room _ _ c.args.token c.args.column _ _ c.self.invariant there (cell_place_is _ c.args.token c.args.column _ _ _ f.0 c.row.ensures.width c.start.ensures.start) (rw c.start.ensures.start at c.start.ensures.within))
