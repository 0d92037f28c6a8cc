use Rattle.std.proofs.Common.{refl, arith}
use Rattle.enc_session.proofs.Turned.{step_has_passed}
use Rattle.enc_session.proofs.Unheard.{unheard}
use Rattle.enc_session.proofs.session.Session.step.Goals as goal

pub returns-then-faults-eq0-clause-passed : goal.returns-then-faults-eq0-clause-passed
returns-then-faults-eq0-clause-passed g c =
    let faults = rw (← c.self.view_is) at c.in_ok-faults.ensures.faults in
    rw (← c.self.view_is)
    (step_has_passed c.args.task c.in_ok-end.end c.step.new.seen c.nothing-seen.result _ _ c.push_step_lines.new.out.items c.push_step_lines.new.out.items c.args.out.now.items
    c.in_ok-end.ensures.turn c.in_ok-end.ensures.seen c.nothing-seen.ensures c.in_ok-end.ensures.followed refl
    (rw c.make_room.ensures.same at c.push_step_lines.ensures.text)
    (unheard _ c.self.inside.audience.seats c.push_step_lines.new.out.items (omega (arith, faults, c.if-faults-eq0.true))))

pub returns-then-faults-eq0-clause-given : goal.returns-then-faults-eq0-clause-given
returns-then-faults-eq0-clause-given g c = rw (← c.self.view_is) refl

pub returns-clause-passed : goal.returns-clause-passed
returns-clause-passed g c =
    rw (← c.self.view_is)
    (step_has_passed c.args.task c.in_ok-end.end c.step.new.seen c.nothing-seen.result _ _ c.tell.new.out.items c.push_step_lines.new.out.items c.args.out.now.items
    c.in_ok-end.ensures.turn c.in_ok-end.ensures.seen c.nothing-seen.ensures c.in_ok-end.ensures.followed c.tell.ensures.given
    (rw c.make_room.ensures.same at c.push_step_lines.ensures.text)
    (rw (c.as_slice.ensures, c.step_events-events.ensures, c.method-method.ensures) at c.tell.ensures.told))
