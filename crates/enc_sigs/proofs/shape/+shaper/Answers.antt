use Rattle.std.proofs.Common.{◌≡◌, ◌-◌, ◌+◌, ◌∙◌, sym, ap, arith, drop}
use Rattle.enc_sigs.specs.Grammar.{begins}
use Rattle.enc_sigs.specs.Shape.{elem_shape, marked_shape}
use Rattle.enc_sigs.proofs.Many.{plain_by, marked_by, marked_is}
use Rattle.enc_sigs.proofs.Shapes.{shape_more, shape_fails, shape_done, param_more, param_marked, param_fails, param_done, shape_none}
use Rattle.enc_sigs.proofs.shape.+shaper.Goals as goal

pub elem_shape-returns-then-depth-eq0 : goal.elem_shape-returns-then-depth-eq0
elem_shape-returns-then-depth-eq0 g t c = λ keys h. sym (shape_none _ _ _ _ (omega arith))

pub many_shape-returns-in_default : goal.many_shape-returns-in_default
many_shape-returns-in_default g t c = λ keys h. sym (c.loop-i.invariant keys h ∙ shape_fails _ _ (c.args.count - (c.loop-i.i + 1)) _ _ (omega arith) (sym (c.in_default.ensures keys h)))

pub many_shape-loop-i-preserved : goal.many_shape-loop-i-preserved
many_shape-loop-i-preserved g t c = λ keys h. c.loop-i.invariant keys h ∙ shape_more _ _ _ _ _ _ _ (omega arith) (sym (c.in-Some.ensures keys h))

pub many_shape-returns : goal.many_shape-returns
many_shape-returns g t c = λ keys h. sym (c.loop-i.invariant keys h ∙ shape_done _ _ _ _ (omega arith))

pub params_shape-returns-in-Some : goal.params_shape-returns-in-Some
params_shape-returns-in-Some g t c = λ keys h.
    let a = c.loop-left.rest.now in
    let e : c.in-Some.marked.now ≡ drop 1 a = marked_is (begins 0x41 a) (drop 1 a) c.in-Some.marked.now c.in-Some.ensures in
    c.marked_shape.ensures keys h
    ∙ ap (λ x. marked_shape (elem_shape keys c.args.depth) (c.loop-left.left - 1) c.loop-left.mix x) e
    ∙ sym (c.loop-left.invariant keys h ∙ param_marked _ _ (c.loop-left.left - 1) _ _ (omega arith) (marked_by (begins 0x41 a) (drop 1 a) c.in-Some.marked.now c.in-Some.ensures))

pub params_shape-returns-in_default : goal.params_shape-returns-in_default
params_shape-returns-in_default g t c = λ keys h. sym (c.loop-left.invariant keys h ∙ param_fails _ _ (c.loop-left.left - 1) _ _ (omega arith) (plain_by _ _ c.in-None.ensures) (sym (c.in_default.ensures keys h)))

pub params_shape-loop-left-preserved : goal.params_shape-loop-left-preserved
params_shape-loop-left-preserved g t c = λ keys h. c.loop-left.invariant keys h ∙ param_more _ _ _ _ _ _ _ (omega arith) (plain_by _ _ c.in-None.ensures) (sym (c.in-Some-elem_shape.ensures keys h))

pub params_shape-returns : goal.params_shape-returns
params_shape-returns g t c = λ keys h. sym (c.loop-left.invariant keys h ∙ param_done _ _ _ _ (omega arith))
