use Rattle.std.proofs.Common.{◌≡◌, ◌+◌, ◌-◌, ◌%◌, ◌++◌, length, replicate, subst, sym, ap, ◌∙◌, arith}
use Rattle.enc_rewriter.specs.Placed.{IsFieldPlaced}
use Rattle.enc_rewriter.proofs.FieldsPlaced.{eight_place, written_placed}
use Rattle.enc_rewriter.proofs.fields.push_bytes.Goals as goal

pub returns-clause-placed : goal.returns-clause-placed
returns-clause-placed c =
    let old = c.args.out.now.items in
    let front = c.push_zeros.new.out.items in
    let begun : c.len.result ≡ length old = omega (arith, c.len.ensures) in
    let place : c.len-place.result ≡ length front = omega (arith, c.len-place.ensures) in
    let padded : front ≡ old ++ replicate ((8 - length old % 8) % 8) 0 = c.in_ok-push_zeros.ensures ∙ ap (λ n. old ++ replicate ((8 - n % 8) % 8) 0) begun in
    subst (λ out. IsFieldPlaced out c.args.bytes.now (8192 + c.len-place.result)) (sym c.in_ok-extend_from_slice.ensures.items)
    (written_placed front c.args.bytes.now c.len-place.result (sym place) (rw place (eight_place old front padded)) c.requires.some)
