use Rattle.enc_session.proofs.Numbered.{tasks_more}
use Rattle.enc_session.proofs.states.push_tasks.Goals as goal

pub loop-i-preserved : goal.loop-i-preserved
loop-i-preserved c = tasks_more c.args.machine.now c.loop-i.i _ _ _ c.loop-i.invariant c.in_ok-push_task_text.ensures
