use Rattle.std.proofs.Common.{sym, ◌∙◌, arith}
use Rattle.std.proofs.lemmas.List.{length-reverse}
use Rattle.enc_ppdb.proofs.Tellers.{told_nowhere, told_there, told_row}
use Rattle.enc_ppdb.proofs.chain.known.Goals as goal

pub overflow_sub-place : goal.overflow_sub-place
overflow_sub-place c =
    let t = told_there c.args.base.now 0 c.args.added.now c.args.places.now c.args.method c.last_upto.result c.in-Some.place c.requires c.last_upto.ensures c.in-Some.is in
    omega (arith, t.low)

pub bounds-added-place : goal.bounds-added-place
bounds-added-place c =
    let t = told_there c.args.base.now 0 c.args.added.now c.args.places.now c.args.method c.last_upto.result c.in-Some.place c.requires c.last_upto.ensures c.in-Some.is in
    omega (arith, t.low, t.high, length-reverse c.args.added.now)

pub returns-in-None : goal.returns-in-None
returns-in-None c =
    let t = told_nowhere c.args.base.now 0 c.args.added.now c.args.places.now c.args.method c.last_upto.result c.requires c.last_upto.ensures c.in-None.is in
    c.in_base.ensures ∙ sym t.0

pub returns-in-Some : goal.returns-in-Some
returns-in-Some c =
    let t = told_there c.args.base.now 0 c.args.added.now c.args.places.now c.args.method c.last_upto.result c.in-Some.place c.requires c.last_upto.ensures c.in-Some.is in
    told_row c.args.base.now 0 c.args.added.now c.args.method c.in-Some.place c.index-added-place.result c.known.result t c.index-added-place.is c.known.ensures
