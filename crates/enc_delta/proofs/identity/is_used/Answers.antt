use Rattle.std.proofs.Common.{◌≡◌, ◌<◌, length, get_or, refl, sym, ◌∙◌, arith}
use Rattle.std.specs.Prelude.{bytes_eq}
use Rattle.enc_meta.specs.Heaps.{nil_guid}
use Rattle.enc_delta.proofs.OneHeapMore.{id_more, any_found, any_more, any_all}
use Rattle.enc_delta.proofs.identity.is_used.Goals as goal

pub loop-g-init : goal.loop-g-init
loop-g-init g c = refl

pub returns-then-eq : goal.returns-then-eq
returns-then-eq g c =
    let lt : c.loop-g.g < length (g.C.ChainView.chain c.args.chain.now).ids = omega (arith, c.loop-g-test.true, c.generations-g-end.ensures.count) in
    let e : c.as_slice.result.now ≡ get_or (g.C.ChainView.chain c.args.chain.now).ids c.loop-g.g nil_guid = c.as_slice.ensures ∙ c.enc_id.ensures ∙ id_more (g.C.ChainView.chain c.args.chain.now) c.loop-g.g lt in
    let here = sym c.eq.ensures ∙ c.if-eq.true in
    sym (any_found (λ x. bytes_eq x c.args.id.now) _ c.loop-g.g nil_guid lt (rw e at here))

pub loop-g-preserved : goal.loop-g-preserved
loop-g-preserved g c =
    let lt : c.loop-g.g < length (g.C.ChainView.chain c.args.chain.now).ids = omega (arith, c.loop-g-test.true, c.generations-g-end.ensures.count) in
    let e : c.as_slice.result.now ≡ get_or (g.C.ChainView.chain c.args.chain.now).ids c.loop-g.g nil_guid = c.as_slice.ensures ∙ c.enc_id.ensures ∙ id_more (g.C.ChainView.chain c.args.chain.now) c.loop-g.g lt in
    let here = sym c.eq.ensures ∙ c.if-eq.false in
    any_more (λ x. bytes_eq x c.args.id.now) _ c.loop-g.g nil_guid lt c.loop-g.invariant (rw e at here)

pub returns : goal.returns
returns g c = sym (any_all (λ x. bytes_eq x c.args.id.now) _ c.loop-g.g (omega (arith, c.loop-g-test.false, c.generations-g-end.ensures.count)) c.loop-g.invariant)
