use Rattle.std.proofs.Common.{◌≤◌, length, arith, refl, sym, ◌∙◌}
use Rattle.enc_session.proofs.Recorded.{have_room, made_has_generations, no_step_recorded, step_few, step_is_recorded}
use Rattle.enc_vm.specs.Turns.{shown_in}
use Rattle.enc_session.specs.Seen.{ending_told}
use Rattle.enc_session.specs.RecordingSeen.{generation_at}
use Rattle.enc_session.proofs.recording.Recording.step.Goals as goal

pub returns-then-not-is_made-clause-recorded : goal.returns-then-not-is_made-clause-recorded
returns-then-not-is_made-clause-recorded c =
    rw (← c.self.view_is)
    (no_step_recorded c.args.task c.in_ok-end.end c.step.new.seen _ _ (sym c.is_made.ensures ∙ c.if-not-is_made.true) c.in_ok-end.ensures.turn c.in_ok-end.ensures.followed
    refl c.reserve.ensures.items refl refl)

pub returns-clause-recorded : goal.returns-clause-recorded
returns-clause-recorded c =
    rw (← c.self.view_is)
    (step_is_recorded c.args.task c.in_ok-end.end c.step.new.seen _ _ (generation_at c.self.inside.newest) (sym c.is_made.ensures ∙ c.if-not-is_made.false)
    c.in_ok-end.ensures.turn c.self.invariant.1 c.in_ok-end.ensures.followed
    (rw (c.as_slice.ensures, c.step_events-events.ensures, c.method-method.ensures) at c.push_events.ensures.events)
    (rw c.reserve.ensures.items at c.push_step_lines.ensures.text) c.settle.ensures refl)

pub invariant_of-self-2 : goal.invariant_of-self-2
invariant_of-self-2 c =
    let few : length c.as_slice.result.now ≤ 4 =
    rw (c.as_slice.ensures, c.step_events-events.ensures)
    (step_few c.args.task c.method-method.result (ending_told c.in_ok-end.end) c.step.new.seen.line (shown_in c.step.new.seen)) in
    let asked = rw (← c.self.view_is) at c.requires in (
      have_room c.self.inside.limit c.push_events.new.all c.self.inside.events c.as_slice.result.now c.push_events.ensures.events
          c.push_events.ensures.capacity c.self.invariant.0 (omega (arith, few, asked)),
      rw c.in_ok-end.ensures.followed c.self.invariant.1,
      made_has_generations c.args.task c.in_ok-end.end c.step.new.seen c.self.inside.engine.followed c.self.inside.engine.machine c.step.new.self.machine
          (generation_at c.self.inside.newest) c.self.inside.generations.items c.settle.new.generations.items (sym c.is_made.ensures ∙ c.if-not-is_made.false)
          c.in_ok-end.ensures.turn c.settle.ensures c.self.invariant.2,
    )
