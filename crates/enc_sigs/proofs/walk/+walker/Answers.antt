use Rattle.std.proofs.Common.{◌≡◌, ◌-◌, ◌+◌, ◌∙◌, sym, ap, arith, drop}
use Rattle.enc_sigs.specs.Grammar.{begins}
use Rattle.enc_sigs.specs.Walk.{elem_walk, marked_walk}
use Rattle.enc_sigs.proofs.Many.{plain_by, marked_by, marked_is}
use Rattle.enc_sigs.proofs.Walks.{walk_more, walk_fails, walk_done, step_more, step_marked, step_fails, step_done, walk_none}
use Rattle.enc_sigs.proofs.walk.+walker.Goals as goal

pub elem_of_both-returns-then-depth-eq0 : goal.elem_of_both-returns-then-depth-eq0
elem_of_both-returns-then-depth-eq0 g t c = λ rel h. sym (walk_none _ _ _ _ (omega arith))

pub many_of_both-returns-in_default : goal.many_of_both-returns-in_default
many_of_both-returns-in_default g t c = λ rel h. sym (c.loop-i.invariant rel h ∙ walk_fails _ _ (c.args.count - (c.loop-i.i + 1)) _ _ (omega arith) (sym (c.in_default.ensures rel h)))

pub many_of_both-loop-i-preserved : goal.many_of_both-loop-i-preserved
many_of_both-loop-i-preserved g t c = λ rel h. c.loop-i.invariant rel h ∙ walk_more _ _ _ _ _ _ _ (omega arith) (sym (c.in-Some.ensures rel h))

pub many_of_both-returns : goal.many_of_both-returns
many_of_both-returns g t c = λ rel h. sym (c.loop-i.invariant rel h ∙ walk_done _ _ _ _ (omega arith))

pub params_of_both-returns-in-Some : goal.params_of_both-returns-in-Some
params_of_both-returns-in-Some g t c = λ rel h.
    let a = c.loop-left.a.now in
    let e : c.in-Some.marked.now ≡ drop 1 a = marked_is (begins 0x41 a) (drop 1 a) c.in-Some.marked.now c.in-Some.ensures in
    c.marked_of_both.ensures rel h
    ∙ ap (λ x. marked_walk (elem_walk rel c.args.depth) (c.loop-left.left - 1) x c.loop-left.b.now) e
    ∙ sym (c.loop-left.invariant rel h ∙ step_marked _ _ (c.loop-left.left - 1) _ _ (omega arith) (marked_by (begins 0x41 a) (drop 1 a) c.in-Some.marked.now c.in-Some.ensures))

pub params_of_both-returns-in_default : goal.params_of_both-returns-in_default
params_of_both-returns-in_default g t c = λ rel h. sym (c.loop-left.invariant rel h ∙ step_fails _ _ (c.loop-left.left - 1) _ _ (omega arith) (plain_by _ _ c.in-None.ensures) (sym (c.in_default.ensures rel h)))

pub params_of_both-loop-left-preserved : goal.params_of_both-loop-left-preserved
params_of_both-loop-left-preserved g t c = λ rel h. c.loop-left.invariant rel h ∙ step_more _ _ _ _ _ _ _ (omega arith) (plain_by _ _ c.in-None.ensures) (sym (c.in-Some-elem_of_both.ensures rel h))

pub params_of_both-returns : goal.params_of_both-returns
params_of_both-returns g t c = λ rel h. sym (c.loop-left.invariant rel h ∙ step_done _ _ _ _ (omega arith))
