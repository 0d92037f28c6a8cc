use Rattle.std.proofs.Common.{arith, ◌∙◌}
use Rattle.std.proofs.lemmas.Result.{on_ok_weaker}
use Rattle.enc_writer.proofs.BodiesAssembled.{size_given, many_given}
use Rattle.enc_writer.proofs.bodies.push_body.Goals as goal

pub write_body-requires-clause-size : goal.write_body-requires-clause-size
write_body-requires-clause-size c =
    let size = size_given c.args.heaps.now c.args.body.now c.as_slice.result.now c.deref.result.now c.as_slice.ensures (c.deref.ensures.value ∙ c.in_ok-code.ensures.bytes) c.requires.can.fits in
    omega (arith, size, many_given c.args.body.now c.as_slice-2.result.now c.as_slice-2.ensures, c.requires.room)

pub returns-clause-room : goal.returns-clause-room
returns-clause-room c =
    let size = size_given c.args.heaps.now c.args.body.now c.as_slice.result.now c.deref.result.now c.as_slice.ensures (c.deref.ensures.value ∙ c.in_ok-code.ensures.bytes) c.requires.can.fits in
    let many = many_given c.args.body.now c.as_slice-2.result.now c.as_slice-2.ensures in
    on_ok_weaker c.write_body.result (λ few. omega (arith, size, many, few)) c.write_body.ensures.few
