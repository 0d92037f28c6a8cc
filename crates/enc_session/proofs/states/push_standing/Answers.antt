use Rattle.std.proofs.Common.{Some, sym, ap, ◌∙◌, rules}
use Rattle.enc_session.proofs.Looked.{none_standing, ended_standing, trapped_standing, running_standing, unwinding_standing}
use Rattle.enc_session.proofs.states.push_standing.Goals as goal

pub returns-in-None : goal.returns-in-None
returns-in-None c = rw (none_standing c.args.machine.now c.args.task (sym c.status.ensures ∙ c.in-None.is)) (search rules)

pub returns-in-Some-Ended : goal.returns-in-Some-Ended
returns-in-Some-Ended c =
    rw (ended_standing c.args.machine.now c.args.task (sym c.status.ensures ∙ c.in-Some-Ended.is ∙ ap Some c.in-Some-Ended.field-0-is)) c.push_word.ensures

pub returns-in-Some-Trapped : goal.returns-in-Some-Trapped
returns-in-Some-Trapped c =
    rw (trapped_standing c.args.machine.now c.args.task _ (sym c.status.ensures ∙ c.in-Some-Trapped.is ∙ ap Some c.in-Some-Trapped.field-0-is)) c.push_word-in-Some-Trapped.ensures

pub returns-in-None-flight_object : goal.returns-in-None-flight_object
returns-in-None-flight_object c =
    rw (running_standing c.args.machine.now c.args.task (sym c.status.ensures ∙ c.in-Some-Running.is ∙ ap Some c.in-Some-Running.field-0-is)
    (sym c.flight_object.ensures ∙ c.in-None-flight_object.is)) c.push_word-in-None-flight_object.ensures

pub returns-in-Some : goal.returns-in-Some
returns-in-Some c =
    rw (unwinding_standing c.args.machine.now c.args.task c.in-Some.object (sym c.status.ensures ∙ c.in-Some-Running.is ∙ ap Some c.in-Some-Running.field-0-is)
    (sym c.flight_object.ensures ∙ c.in-Some.is)) c.push_unwinding.ensures
