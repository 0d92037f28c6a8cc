use Rattle.std.proofs.Common.{◌≡◌, ◌-◌, ◌∙◌, arith, drop}
use Rattle.std.proofs.lemmas.Result.{err_from_is_err_and}
use Rattle.enc_sigs.proofs.Many.{many_more, many_fails, many_done, params_more, params_fails, params_done, params_marked, plain_by, marked_by, marked_is, elem_none}
use Rattle.enc_sigs.specs.Grammar.{params, marked_in, begins, elem_in, in_counts}
use Rattle.enc_sigs.proofs.read.+reader.Goals as goal

pub many_elems-returns-in_err-kid : goal.many_elems-returns-in_err-kid
many_elems-returns-in_err-kid t c = let p = err_from_is_err_and c.from_residual.result c.from_residual.ensures.1 in rw (p.1, p.2) (λ e. c.loop-i.invariant ∙ many_fails _ _ _ (c.args.count - c.loop-i.i - 1) _ (omega arith) (c.in_err-kid.ensures e))

pub many_elems-loop-i-preserved : goal.many_elems-loop-i-preserved
many_elems-loop-i-preserved t c = rw c.in-Ok.ensures (c.loop-i.invariant ∙ many_more _ _ _ _ _ _ _ (omega arith) c.in_ok-kid.ensures)

pub many_elems-returns : goal.many_elems-returns
many_elems-returns t c = c.loop-i.invariant ∙ many_done _ _ _ _ (omega arith)

pub elem-returns-then-depth-eq0 : goal.elem-returns-then-depth-eq0
elem-returns-then-depth-eq0 t c = λ e. elem_none _ _ _ (omega arith)

pub parameters-returns-in-Some : goal.parameters-returns-in-Some
parameters-returns-in-Some t c =
    let one = elem_in (in_counts c.args.counts.now) c.args.depth in
    let rest = c.loop-left.rest.now in
    let here : params one c.loop-left.left rest ≡ marked_in one (c.loop-left.left - 1) (drop 1 rest) = params_marked one c.loop-left.left (c.loop-left.left - 1) rest (omega arith) (marked_by (begins 0x41 rest) (drop 1 rest) c.in-Some.marked.now c.in-Some.ensures) in
    let e : c.in-Some.marked.now ≡ drop 1 rest = marked_is (begins 0x41 rest) (drop 1 rest) c.in-Some.marked.now c.in-Some.ensures in
    rw (c.loop-left.invariant, here, ← e) c.sentinel.ensures

pub parameters-returns-in_err-kid : goal.parameters-returns-in_err-kid
parameters-returns-in_err-kid t c = let p = err_from_is_err_and c.from_residual.result c.from_residual.ensures.1 in rw (p.1, p.2) (λ e. c.loop-left.invariant ∙ params_fails _ _ _ (c.loop-left.left - 1) _ (omega arith) (plain_by _ _ c.in-None.ensures) (c.in_err-kid.ensures e))

pub parameters-loop-left-preserved : goal.parameters-loop-left-preserved
parameters-loop-left-preserved t c = rw c.in-Ok.ensures (c.loop-left.invariant ∙ params_more _ _ _ _ _ _ _ (omega arith) (plain_by _ _ c.in-None.ensures) c.in_ok-kid.ensures)

pub parameters-returns : goal.parameters-returns
parameters-returns t c = c.loop-left.invariant ∙ params_done _ _ _ _ (omega arith)
