use Rattle.std.proofs.Common.{◌≡◌, sym, ap, subst, ◌∙◌, length}
use Rattle.std.proofs.lemmas.Result.{on_ok_weaker}
use Rattle.enc_meta.specs.Built.{Built}
use Rattle.enc_meta.specs.BuiltLaws.{IsGood}
use Rattle.enc_list_delta.specs.Holds.{heaps_written}
use Rattle.enc_writer.specs.BodiesWriting.{CanBeWritten, StandsOf, place_given, with_given}
use Rattle.enc_writer.proofs.BodiesGiven.{given, given_grows, can, stands_of_edit, none_of_edit, room_before, room_behind, room_beside, if_both}
use Rattle.enc_writer.proofs.bodies.push_given.Goals as goal

pub push_body-requires-clause-can : goal.push_body-requires-clause-can
push_body-requires-clause-can g c =
    let chain = c.args.context.now.chain in
    let l = c.args.context.now.list in
    let b = c.in-Some.body.now in
    subst (λ (h : Built). CanBeWritten h b) (sym c.requires.heaps) (can chain l c.args.k b c.requires.may (given chain l c.args.k c.edit_at.result.now b c.requires.may c.edit_at.ensures (sym c.in-Some.ensures)))

pub push_body-requires-clause-room : goal.push_body-requires-clause-room
push_body-requires-clause-room g c =
    room_before c.args.context.now.chain c.args.context.now.list c.args.k c.edit_at.result.now c.in-Some.body.now c.args.il.now.items c.requires.may c.edit_at.ensures (sym c.in-Some.ensures) c.requires.room

pub returns-in-Some-clause-stands : goal.returns-in-Some-clause-stands
returns-in-Some-clause-stands g c =
    let chain = c.args.context.now.chain in
    let l = c.args.context.now.list in
    let b = c.in-Some.body.now in
    let il = c.args.il.now.items in
    let new = c.push_body.new.il.items in
    let good : IsGood (heaps_written chain l) = subst IsGood c.requires.heaps c.laws.ensures.good in
    if_both c.push_body.result (new ≡ with_given c.args.heaps.now il b) (λ place. place ≡ place_given c.args.heaps.now (length il) b) (λ place. StandsOf chain l new place c.args.k)
    (λ place written at.
    stands_of_edit c.assembled_law.ensures chain l c.args.k place c.edit_at.result.now b il new c.requires.may good c.body_law.ensures c.edit_at.ensures (sym c.in-Some.ensures) c.requires.room.some
    (written ∙ ap (λ (h : Built). with_given h il b) c.requires.heaps) (at ∙ ap (λ (h : Built). place_given h (length il) b) c.requires.heaps))
    c.push_body.ensures.written c.push_body.ensures.place

pub returns-in-Some-clause-grows : goal.returns-in-Some-clause-grows
returns-in-Some-clause-grows g c =
    on_ok_weaker c.push_body.result (given_grows c.args.heaps.now c.in-Some.body.now c.args.il.now.items c.push_body.new.il.items) c.push_body.ensures.written

pub returns-in-Some-clause-room : goal.returns-in-Some-clause-room
returns-in-Some-clause-room g c =
    let b = c.in-Some.body.now in
    if_both c.push_body.result _ _ _
    (λ place written few. room_behind c.args.heaps.now c.args.context.now.list c.args.k c.edit_at.result.now b c.args.il.now.items c.push_body.new.il.items c.edit_at.ensures (sym c.in-Some.ensures) c.requires.room written few)
    c.push_body.ensures.written c.push_body.ensures.room

pub returns-in-None-clause-stands : goal.returns-in-None-clause-stands
returns-in-None-clause-stands g c = none_of_edit c.args.context.now.chain c.args.context.now.list c.args.k c.edit_at.result.now c.args.il.now.items c.edit_at.ensures (sym c.in-None.ensures)

pub returns-in-None-clause-room : goal.returns-in-None-clause-room
returns-in-None-clause-room g c = room_beside c.args.context.now.list c.args.k c.edit_at.result.now c.args.il.now.items c.edit_at.ensures c.requires.room
