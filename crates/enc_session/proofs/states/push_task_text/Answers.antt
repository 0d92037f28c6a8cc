use Rattle.std.proofs.Common.{sym, arith}
use Rattle.std.proofs.lemmas.Grind.{common_steps}
use Rattle.enc_session.proofs.Looked.{task_shown}
use Rattle.enc_session.proofs.states.push_task_text.Goals as goal

pub returns : goal.returns
returns c = rw (sym (task_shown c.args.machine.now c.args.task)) (grind (arith, common_steps))
