use Rattle.std.proofs.Common.{◌≡◌, ◌-◌, ◌∙◌, arith, drop, sym, ap}
use Rattle.enc_sigs.specs.Grammar.{begins, many}
use Rattle.enc_sigs.specs.Reads.{left_after}
use Rattle.enc_sigs.proofs.Many.{plain_by, marked_by, marked_is}
use Rattle.enc_machine_types.specs.Fronts.{kind_front}
use Rattle.enc_machine_types.proofs.KindsLeft.{left_more, left_fails, left_done, left_marked}
use Rattle.enc_machine_types.proofs.front.past_parameters.Goals as goal

pub returns-in-Some : goal.returns-in-Some
returns-in-Some c =
    let rest = c.loop-left.rest.now in
    let e : c.in-Some.marked.now ≡ drop 1 rest = marked_is (begins 0x41 rest) (drop 1 rest) c.in-Some.marked.now c.in-Some.ensures in
    c.past_kinds.ensures ∙ sym (c.loop-left.invariant ∙ left_marked c.loop-left.left (c.loop-left.left - 1) rest (omega arith) (marked_by (begins 0x41 rest) (drop 1 rest) c.in-Some.marked.now c.in-Some.ensures) ∙ ap (λ l. left_after (many kind_front c.loop-left.left l)) (sym e))

pub returns-in_default : goal.returns-in_default
returns-in_default c = sym (c.loop-left.invariant ∙ left_fails _ (c.loop-left.left - 1) _ (omega arith) (plain_by _ _ c.in-None.ensures) c.in_default.ensures)

pub loop-left-preserved : goal.loop-left-preserved
loop-left-preserved c = c.loop-left.invariant ∙ left_more _ _ _ _ _ (omega arith) (plain_by _ _ c.in-None.ensures) c.in-Some-kind_front.ensures

pub returns : goal.returns
returns c = sym (c.loop-left.invariant ∙ left_done _ _ (omega arith))
