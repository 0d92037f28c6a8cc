use Rattle.std.proofs.Common.{inl, sym, ap, ◌∙◌}
use Rattle.enc_c.proofs.SessionCalled.{task_absent, steps_past, steps_short, steps_done}
use Rattle.enc_c.specs.SessionNumbers.{stepped_numbers}
use Rattle.enc_c.proofs.session_changes.steps.Goals as goal

pub returns-in_default : goal.returns-in_default
returns-in_default c =
    inl (task_absent c.args.task c.args.count c.number.result c.args.recording.now c.args.stepped.now (sym c.status.ensures ∙ c.in_default.is) c.number.ensures)

pub returns-then-not-may_hold_steps : goal.returns-then-not-may_hold_steps
returns-then-not-may_hold_steps c =
    inl
    (steps_past c.args.task c.args.count c.number-then-not-may_hold_steps.result c.args.recording.now c.args.stepped.now c.in-Some.field-0
    (sym c.status.ensures ∙ c.in-Some.is) (sym c.may_hold_steps.ensures ∙ c.if-not-may_hold_steps.true)
    c.number-then-not-may_hold_steps.ensures)

pub returns-then-not-has_room_for_steps : goal.returns-then-not-has_room_for_steps
returns-then-not-has_room_for_steps c =
    inl
    (steps_short c.args.task c.args.count c.number-then-not-has_room_for_steps.result c.args.recording.now c.args.stepped.now c.in-Some.field-0
    (sym c.status.ensures ∙ c.in-Some.is) (sym c.may_hold_steps.ensures ∙ c.if-not-may_hold_steps.false)
    (sym c.has_room_for_steps.ensures ∙ c.if-not-has_room_for_steps.true)
    c.number-then-not-has_room_for_steps.ensures)

pub returns-in-Ok : goal.returns-in-Ok
returns-in-Ok c =
    inl
    (steps_done c.args.task c.args.count c.number-in-Ok.result c.steps-ran.result.ran c.in-Ok.field-0 c.args.recording.now c.steps-ran.new.self
    c.args.stepped.now c.stepped_numbers.result c.in-Some.field-0 (sym c.status.ensures ∙ c.in-Some.is)
    (sym c.may_hold_steps.ensures ∙ c.if-not-may_hold_steps.false) (sym c.has_room_for_steps.ensures ∙ c.if-not-has_room_for_steps.false) (rw c.in-Ok.is at c.steps-ran.ensures.stepped) c.number-in-Ok.ensures
    (c.stepped_numbers.ensures ∙ ap (stepped_numbers c.steps-ran.result.ran) c.status-2.ensures))
