use Rattle.std.proofs.Common.{Some, refl, sym, ap, ◌∙◌}
use Rattle.enc_script.proofs.Statuses.{absent_said, idle_said, steps_said}
use Rattle.enc_script.proofs.Watching.{on_ok}
use Rattle.enc_script.proofs.running.Running.steps.Goals as goal

pub returns-in-None-clause-ran : goal.returns-in-None-clause-ran
returns-in-None-clause-ran g c =
    rw (← c.self.view_is)
    (on_ok c.push_word.result _ _ (λ printed. absent_said c.args.task c.args.count _ c.push_word.new.out.items c.args.out.now.items
    (sym c.status.ensures ∙ c.in-None.is) printed) c.push_word.ensures)

pub returns-in-Some-Ended-clause-ran : goal.returns-in-Some-Ended-clause-ran
returns-in-Some-Ended-clause-ran g c =
    rw (← c.self.view_is)
    (on_ok c.push_word-in-Some-Ended.result _ _ (λ printed. idle_said c.args.task c.args.count _ _ c.push_word-in-Some-Ended.new.out.items c.args.out.now.items
    (sym c.status.ensures ∙ c.in-Some-Ended.is ∙ ap Some c.in-Some-Ended.field-0-is) (λ h. absurd cc) printed) c.push_word-in-Some-Ended.ensures)

pub returns-in-Some-Trapped-clause-ran : goal.returns-in-Some-Trapped-clause-ran
returns-in-Some-Trapped-clause-ran g c =
    rw (← c.self.view_is)
    (on_ok c.push_word-in-Some-Trapped.result _ _ (λ printed. idle_said c.args.task c.args.count _ _ c.push_word-in-Some-Trapped.new.out.items c.args.out.now.items
    (sym c.status.ensures ∙ c.in-Some-Trapped.is ∙ ap Some c.in-Some-Trapped.field-0-is) (λ h. absurd cc) printed) c.push_word-in-Some-Trapped.ensures)

pub returns-in_ok-made-in-Some-Running-clause-ran : goal.returns-in_ok-made-in-Some-Running-clause-ran
returns-in_ok-made-in-Some-Running-clause-ran g c =
    rw (← c.self.view_is)
    (on_ok c.push_ran.result _ _ (λ printed. steps_said c.args.task c.args.count c.in_ok-made-in-Some-Running.made _ _ c.push_ran.new.out.items
    c.make_steps.new.out.items c.args.out.now.items (sym c.status.ensures ∙ c.in-Some-Running.is ∙ ap Some c.in-Some-Running.field-0-is)
    c.in_ok-made-in-Some-Running.ensures.stepped refl printed) c.push_ran.ensures)
