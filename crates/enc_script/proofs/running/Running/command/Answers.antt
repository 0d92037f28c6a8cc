use Rattle.enc_script.proofs.Watching.{on_ok, state_said}
use Rattle.enc_script.proofs.running.Running.command.Goals as goal

pub returns-in-State-clause-ran : goal.returns-in-State-clause-ran
returns-in-State-clause-ran g c =
    rw (c.in-State.is, ← c.self.view_is)
    (on_ok c.state.result _ _ (λ printed. state_said _ _ c.state.new.out.items c.args.out.now.items printed) c.state.ensures.text)
