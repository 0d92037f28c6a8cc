use Rattle.std.proofs.Common.{List, [], ◌∷◌, ◌++◌, sym, ap, ◌∙◌}
use Rattle.enc_vm.specs.Looks.{frame_in}
use Rattle.enc_watch.specs.declared.event.Event.{Event}
use Rattle.enc_watch.specs.declared.event.Event.TheVariants as event
use Rattle.enc_session.proofs.Begun.{entered_frames}
use Rattle.enc_session.specs.Seen.{entered_if}
use Rattle.enc_session.proofs.events.begun_events.Goals as goal

pub returns : goal.returns
returns c =
    let m = c.args.engine.now.machine in
    let first = entered_if c.args.task (frame_in m c.args.task 0) in
    let second = entered_if c.args.task (frame_in m c.args.task 1) in
    let began : Event = event.Spawned c.args.task c.args.method in
    c.push_entered-2.ensures.events
    ∙ ap (λ (es : List Event). es ++ second)
    (c.push_entered.ensures.events ∙ ap (λ (es : List Event). es ++ first) (c.push.ensures ∙ ap (λ (es : List Event). es ++ began ∷ []) c.none-events.ensures))
    ∙ ap (λ (es : List Event). began ∷ es) (sym (entered_frames m c.args.task c.requires))
