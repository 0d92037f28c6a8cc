use Rattle.std.proofs.Common.{length, Some, ap, ◌∙◌, arith}
use Rattle.std.specs.Prelude.{option_map}
use Rattle.std.proofs.lemmas.Result.{IfOk-weaker}
use Rattle.enc_opcodes.specs.Body.{body_of}
use Rattle.enc_memory_module.specs.Encoded.{has_texts, texts_of}
use Rattle.enc_memory_module.proofs.Assembling.{known, small, kept, low_locals, code_length, again, texts_there}
use Rattle.enc_memory_module.proofs.encode.encoded_body.Goals as goal

pub assemble-requires-clause-fits : goal.assemble-requires-clause-fits
assemble-requires-clause-fits c = rw c.as_slice.ensures (known c.args.body.now c.requires.stands).fits

pub assemble-requires-clause-small : goal.assemble-requires-clause-small
assemble-requires-clause-small c = rw c.as_slice.ensures (small c.args.heaps.now c.args.body.now c.laws.ensures.good c.laws.ensures.within c.requires.starts c.requires.stands c.requires.sound)

pub assemble-requires-clause-kept : goal.assemble-requires-clause-kept
assemble-requires-clause-kept c = rw c.as_slice.ensures (kept c.args.heaps.now c.args.body.now c.requires.sound)

pub assemble-requires-clause-size : goal.assemble-requires-clause-size
assemble-requires-clause-size c = rw c.as_slice.ensures (let k = known c.args.body.now c.requires.stands in omega (arith, k.room))

pub written-requires-clause-row : goal.written-requires-clause-row
written-requires-clause-row c = low_locals c.args.body.now c.requires.sound.body

pub written-requires-clause-size : goal.written-requires-clause-size
written-requires-clause-size c =
    let k = known c.args.body.now c.requires.stands in
    let long = code_length c.assembled_law.ensures c.args.heaps.now c.args.body.now c.laws.ensures.good c.laws.ensures.within c.requires.starts c.requires.stands c.requires.sound in
    let same = ap length c.deref.ensures.value ∙ ap length c.in-Ok.ensures.bytes in
    omega (arith, k.room, long, rw c.as_slice.ensures at same)

pub returns-in-Ok-clause-means : goal.returns-in-Ok-clause-means
returns-in-Ok-clause-means c =
    let code = rw c.as_slice.ensures at (c.deref.ensures.value ∙ c.in-Ok.ensures.bytes) in
    let read = again c.assembled_law.ensures c.written_clauses_law.ensures c.args.heaps.now c.args.body.now c.laws.ensures.good c.laws.ensures.within c.requires.starts c.requires.stands c.requires.sound in
    IfOk-weaker c.written.result _ _ (λ h is. ap (option_map (body_of (texts_of c.args.heaps.now))) is ∙ ap Some (rw code read)) c.written.ensures

pub returns-in-Ok-clause-texts : goal.returns-in-Ok-clause-texts
returns-in-Ok-clause-texts c =
    let code = rw c.as_slice.ensures at (c.deref.ensures.value ∙ c.in-Ok.ensures.bytes) in
    let there = texts_there c.assembled_law.ensures c.args.heaps.now c.args.body.now c.laws.ensures.good c.laws.ensures.within
    c.requires.starts c.requires.stands c.requires.sound in
    IfOk-weaker c.written.result _ _ (λ h is. ap (has_texts (texts_of c.args.heaps.now)) is ∙ rw code there) c.written.ensures
