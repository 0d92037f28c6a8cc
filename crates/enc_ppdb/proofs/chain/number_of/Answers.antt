use Rattle.std.proofs.Common.{◌+◌, ◌∙◌, ap, length, sym, arith}
use Rattle.std.specs.Prelude.{is_some}
use Rattle.std.proofs.lemmas.List.{length-reverse}
use Rattle.enc_ppdb.proofs.Tellers.{told_nowhere, told_there, told_number, base_number}
use Rattle.enc_ppdb.proofs.chain.number_of.Goals as goal

pub returns-then-is_some-clause-number : goal.returns-then-is_some-clause-number
returns-then-is_some-clause-number c =
    let none = length c.args.added.now + 1 in
    let t = told_nowhere c.args.base.now none c.args.added.now c.args.places.now c.args.method c.last_upto.result c.requires c.last_upto.ensures c.in_default.is in
    base_number c.args.base.now none c.args.added.now c.args.method _ t (sym (ap is_some c.in_base.ensures) ∙ sym c.is_some.ensures ∙ c.if-is_some.true)

pub returns-in_default-clause-number : goal.returns-in_default-clause-number
returns-in_default-clause-number c =
    let none = length c.args.added.now + 1 in
    let t = told_nowhere c.args.base.now none c.args.added.now c.args.places.now c.args.method c.last_upto.result c.requires c.last_upto.ensures c.in_default.is in
    base_number c.args.base.now none c.args.added.now c.args.method _ t (sym (ap is_some c.in_base.ensures) ∙ sym c.is_some.ensures ∙ c.if-is_some.false)

pub overflow_sub-number : goal.overflow_sub-number
overflow_sub-number c =
    let t = told_there c.args.base.now 0 c.args.added.now c.args.places.now c.args.method c.last_upto.result c.in-Some.place c.requires c.last_upto.ensures c.in-Some.is in
    omega (arith, t.low)

pub bounds-added-number : goal.bounds-added-number
bounds-added-number c =
    let t = told_there c.args.base.now 0 c.args.added.now c.args.places.now c.args.method c.last_upto.result c.in-Some.place c.requires c.last_upto.ensures c.in-Some.is in
    omega (arith, t.low, t.high, length-reverse c.args.added.now)

pub returns-then-is_some-2-clause-number : goal.returns-then-is_some-2-clause-number
returns-then-is_some-2-clause-number c =
    let none = length c.args.added.now + 1 in
    let t = told_there c.args.base.now none c.args.added.now c.args.places.now c.args.method c.last_upto.result c.in-Some.place c.requires c.last_upto.ensures c.in-Some.is in
    told_number c.args.base.now none c.args.added.now c.args.method c.in-Some.place c.index-added-number.result _ t c.index-added-number.is
    (sym (ap is_some c.known.ensures) ∙ sym c.is_some-2.ensures ∙ c.if-is_some-2.true)

pub returns-then-is_some-2-clause-few : goal.returns-then-is_some-2-clause-few
returns-then-is_some-2-clause-few c =
    let t = told_there c.args.base.now 0 c.args.added.now c.args.places.now c.args.method c.last_upto.result c.in-Some.place c.requires c.last_upto.ensures c.in-Some.is in
    omega (arith, t.high, length-reverse c.args.added.now)

pub returns-else-is_some-2-clause-number : goal.returns-else-is_some-2-clause-number
returns-else-is_some-2-clause-number c =
    let none = length c.args.added.now + 1 in
    let t = told_there c.args.base.now none c.args.added.now c.args.places.now c.args.method c.last_upto.result c.in-Some.place c.requires c.last_upto.ensures c.in-Some.is in
    told_number c.args.base.now none c.args.added.now c.args.method c.in-Some.place c.index-added-number.result _ t c.index-added-number.is
    (sym (ap is_some c.known.ensures) ∙ sym c.is_some-2.ensures ∙ c.if-is_some-2.false)
