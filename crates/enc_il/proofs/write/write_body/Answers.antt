use Rattle.std.proofs.Common.{◌≡◌, ◌++◌, length, ap, ◌∙◌, arith}
use Rattle.enc_opcodes.specs.Body.{code_seen}
use Rattle.enc_il.proofs.BodiesShort.{written_few}
use Rattle.enc_il.proofs.write.write_body.Goals as goal

pub returns-clause-few : goal.returns-clause-few
returns-clause-few c =
    let out = c.args.out.now in
    let size : c.len-size.result ≡ length out.items = omega arith in
    let put = c.in_ok-extend_from_slice.ensures.items ∙ ap (λ bytes. out.items ++ bytes) c.deref.ensures.value in
    written_few out.items (code_seen c.args.code.now) c.args.clauses.now c.len-size.result c.place_for-place.result _ _ _ _ size c.place_for-place.ensures.place c.new-body.ensures.items c.in_ok-push_zeros.ensures c.in_ok-push_body.ensures put
