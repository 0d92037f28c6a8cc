use Rattle.std.proofs.Common.{◌≡◌, true, refl}
use Rattle.enc_plain.specs.Cell.{is_body}
use Rattle.enc_writer.proofs.NumbersSay.{no_body, place_found, place_says, body_number_says, plain_says}
use Rattle.enc_writer.proofs.numbers.number_at.Goals as goal

pub place_of-requires : goal.place_of-requires
place_of-requires g c = let j = c.args.context.now in place_found j.chain j.list _ c.args.bodies.now.il.items c.args.bodies.now.methods c.args.row c.requires.ready.bodies c.if-row-eq-METHOD_DEF.true c.requires.row

pub returns-then-i-eq0-clause-says : goal.returns-then-i-eq0-clause-says
returns-then-i-eq0-clause-says g c =
    let j = c.args.context.now in
    let is : is_body c.args.row.table c.args.i ≡ true = rw (c.if-row-eq-METHOD_DEF.true, c.if-i-eq0.true) refl in
    body_number_says j.chain j.list c.args.bodies.now.il.items c.args.row c.args.i c.args.column c.place_of.result c.requires.ready.may c.requires.row c.requires.column is c.place_of.type_inv
    (place_says j.chain j.list c.args.bodies.now.il.items c.args.bodies.now.methods c.args.row c.args.i c.place_of.result c.requires.ready.bodies c.if-row-eq-METHOD_DEF.true c.if-i-eq0.true c.place_of.ensures)

pub returns-clause-says : goal.returns-clause-says
returns-clause-says g c =
    let j = c.args.context.now in
    plain_says j.chain j.list c.args.bodies.now.il.items c.args.row c.args.i c.args.column c.in_ok-number.number (no_body c.args.row.table c.args.i c.else-row-eq-METHOD_DEF.either) c.in_ok-number.ensures.says
