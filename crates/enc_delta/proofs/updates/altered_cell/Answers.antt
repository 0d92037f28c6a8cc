use Rattle.std.proofs.Common.{refl, sym, ◌∙◌, arith}
use Rattle.enc_base.proofs.First.{first_none, first_found, first_more}
use Rattle.enc_delta.specs.Changes.{altered_cell, altered_in}
use Rattle.enc_delta.specs.Context.{joined_rows, joined_blobs}
use Rattle.enc_delta.proofs.SignaturesAfter.{nth_is}
use Rattle.enc_delta.proofs.updates.altered_cell.Goals as goal

pub returns-in-Some : goal.returns-in-Some
unfolding altered_cell
returns-in-Some g c = first_found _ _ c.loop-k.k _ (rw (← c.tokens-tokens.ensures.tokens) (omega (arith, c.loop-k-test.true))) c.loop-k.invariant.0 (sym c.in-Some.is ∙ c.altered_in.ensures.place ∙ nth_is (altered_in c.args.context.now.chain c.args.context.now.delta) c.args.context.now.delta c.tokens-tokens.result.now c.loop-k.k _ c.tokens-tokens.ensures.tokens (omega (arith, c.loop-k-test.true))) refl

pub loop-k-preserved : goal.loop-k-preserved
loop-k-preserved g c = (
  first_more _ c.loop-k.k c.loop-k.invariant.0 ∙ sym (nth_is (altered_in c.args.context.now.chain c.args.context.now.delta) c.args.context.now.delta c.tokens-tokens.result.now c.loop-k.k _ c.tokens-tokens.ensures.tokens (omega (arith, c.loop-k-test.true))) ∙ sym c.altered_in.ensures.place ∙ c.in-None.is,
  c.altered_in.ensures.known,
)

pub loop-k-init : goal.loop-k-init
loop-k-init g c = (first_none _, c.new-known.ensures (joined_rows c.args.context.now) (joined_blobs c.args.context.now))
