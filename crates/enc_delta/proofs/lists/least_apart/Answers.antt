use Rattle.std.proofs.Common.{get_or, sym, ap, Some, ◌∙◌, arith}
use Rattle.enc_delta.proofs.ListsSets.{walked, same_step, apart_step, left_over, right_over, none_over}
use Rattle.enc_delta.proofs.lists.least_apart.Goals as goal

pub loop-k-preserved : goal.loop-k-preserved
loop-k-preserved c = c.loop-k.invariant ∙ same_step c.args.left.now c.args.right.now c.loop-k.k c.loop-k-test.true c.if-k-right.false c.if-x-y.false

pub returns-then-k-right : goal.returns-then-k-right
returns-then-k-right c = walked _ _ _ c.requires.left c.requires.right (c.loop-k.invariant ∙ left_over c.args.left.now c.args.right.now c.loop-k.k (omega arith) (omega arith))

pub returns-then-x-y : goal.returns-then-x-y
returns-then-x-y c = walked _ _ _ c.requires.left c.requires.right (c.loop-k.invariant ∙ apart_step c.args.left.now c.args.right.now c.loop-k.k (omega arith) (omega arith) c.if-x-y.true ∙ ap (λ n. Some n) (sym c.min.ensures))

pub returns-then-left-right : goal.returns-then-left-right
returns-then-left-right c = walked _ _ _ c.requires.left c.requires.right (c.loop-k.invariant ∙ right_over c.args.left.now c.args.right.now c.loop-k.k (omega arith) (omega arith) ∙ ap (λ k. Some (get_or c.args.right.now k 0)) (omega arith))

pub returns : goal.returns
returns c = walked _ _ _ c.requires.left c.requires.right (c.loop-k.invariant ∙ none_over c.args.left.now c.args.right.now c.loop-k.k (omega arith) (omega arith))
