use Rattle.std.proofs.Common.{◌≡◌, ◌-◌, ◌∙◌, arith, drop, sym, ap}
use Rattle.enc_sigs.proofs.Many.{elem_none, plain_by, marked_by, marked_is}
use Rattle.enc_sigs.proofs.Left.{left_more, left_fails, left_done, params_left_more, params_left_fails, params_left_done, params_left_marked}
use Rattle.enc_sigs.specs.Grammar.{begins, elem_in, test_of, many}
use Rattle.enc_sigs.specs.Reads.{left_after}
use Rattle.enc_sigs.proofs.judge.+judge.Goals as goal

pub past_elem-returns-then-depth-eq0 : goal.past_elem-returns-then-depth-eq0
past_elem-returns-then-depth-eq0 t c = sym (ap left_after (elem_none (test_of c.args.rows.now) c.args.depth c.args.bytes.now (omega arith)))

pub past_many-returns-in_default : goal.past_many-returns-in_default
past_many-returns-in_default t c = sym (c.loop-i.invariant ∙ left_fails (elem_in (test_of c.args.rows.now) c.args.depth) _ (c.args.count - c.loop-i.i - 1) _ (omega arith) c.in_default.ensures)

pub past_many-loop-i-preserved : goal.past_many-loop-i-preserved
past_many-loop-i-preserved t c = c.loop-i.invariant ∙ left_more (elem_in (test_of c.args.rows.now) c.args.depth) _ _ _ _ (omega arith) c.in-Some.ensures

pub past_many-returns : goal.past_many-returns
past_many-returns t c = sym (c.loop-i.invariant ∙ left_done (elem_in (test_of c.args.rows.now) c.args.depth) _ _ (omega arith))

pub past_parameters-returns-in-Some : goal.past_parameters-returns-in-Some
past_parameters-returns-in-Some t c =
    let one = elem_in (test_of c.args.rows.now) c.args.depth in
    let rest = c.loop-left.rest.now in
    let e : c.in-Some.marked.now ≡ drop 1 rest = marked_is (begins 0x41 rest) (drop 1 rest) c.in-Some.marked.now c.in-Some.ensures in
    c.past_many.ensures ∙ sym (c.loop-left.invariant ∙ params_left_marked one c.loop-left.left (c.loop-left.left - 1) rest (omega arith) (marked_by (begins 0x41 rest) (drop 1 rest) c.in-Some.marked.now c.in-Some.ensures) ∙ ap (λ l. left_after (many one c.loop-left.left l)) (sym e))

pub past_parameters-returns-in_default : goal.past_parameters-returns-in_default
past_parameters-returns-in_default t c = sym (c.loop-left.invariant ∙ params_left_fails (elem_in (test_of c.args.rows.now) c.args.depth) _ (c.loop-left.left - 1) _ (omega arith) (plain_by _ _ c.in-None.ensures) c.in_default.ensures)

pub past_parameters-loop-left-preserved : goal.past_parameters-loop-left-preserved
past_parameters-loop-left-preserved t c = c.loop-left.invariant ∙ params_left_more (elem_in (test_of c.args.rows.now) c.args.depth) _ _ _ _ (omega arith) (plain_by _ _ c.in-None.ensures) c.in-Some-past_elem.ensures

pub past_parameters-returns : goal.past_parameters-returns
past_parameters-returns t c = sym (c.loop-left.invariant ∙ params_left_done (elem_in (test_of c.args.rows.now) c.args.depth) _ _ (omega arith))
