use Rattle.std.proofs.Common.{refl, sym, ◌∙◌, arith}
use Rattle.enc_base.proofs.First.{first_found, first_more}
use Rattle.enc_delta.specs.Changes.{bad_locals, bad_locals_in}
use Rattle.enc_delta.proofs.SignaturesAfter.{nth_is}
use Rattle.enc_delta.proofs.locals.bad_locals.Goals as goal

pub returns-in-Ok-Some : goal.returns-in-Ok-Some
unfolding bad_locals
returns-in-Ok-Some g c = first_found _ _ c.loop-k.k _ (rw (← c.tokens-tokens.ensures.tokens) (omega (arith, c.loop-k-test.true))) c.loop-k.invariant.none (sym c.in-Ok-Some.field-0-is ∙ c.in-Ok-Some.ensures.place ∙ nth_is (bad_locals_in c.args.context.now.chain c.args.context.now.delta) c.args.context.now.delta c.tokens-tokens.result.now c.loop-k.k _ c.tokens-tokens.ensures.tokens (omega (arith, c.loop-k-test.true))) refl

pub loop-k-preserved : goal.loop-k-preserved
loop-k-preserved g c = record {
  none = first_more _ c.loop-k.k c.loop-k.invariant.none ∙ sym (nth_is (bad_locals_in c.args.context.now.chain c.args.context.now.delta) c.args.context.now.delta c.tokens-tokens.result.now c.loop-k.k _ c.tokens-tokens.ensures.tokens (omega (arith, c.loop-k-test.true))) ∙ sym c.in-Ok-None.ensures.place ∙ c.in-Ok-None.field-0-is;
  known = c.in-Ok-None.ensures.known;
}
