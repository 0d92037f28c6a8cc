use Rattle.enc_commands.specs.Loads.{followed}
use Rattle.enc_commands.proofs.Applied.{plan_written, plan_unwritten}
use Rattle.enc_commands.proofs.commands.apply.rewritten.Goals as goal

pub returns-in_ok-saving-in-Ok-clause-plan : goal.returns-in_ok-saving-in-Ok-clause-plan
returns-in_ok-saving-in-Ok-clause-plan c =
    plan_written c.args.out.now (followed c.args.judged.now) c.in_ok-saving-in-Ok.field-0 c.in-Ok.written.image c.in-Ok.written.pdb (rw (c.rows-2.ensures, c.points-2.ensures) at c.in-Ok.ensures.tells) (rw (c.rows-2.ensures, c.points-2.ensures) at c.in-Ok.ensures.written)
    c.in_ok-saving-in-Ok.ensures.outcome c.in_ok-saving-in-Ok.ensures.output c.in_ok-saving-in-Ok.ensures.saves

pub returns-in-Err-clause-plan : goal.returns-in-Err-clause-plan
returns-in-Err-clause-plan c = plan_unwritten c.args.out.now (followed c.args.judged.now) c.in-Err.fault c.unwritten.result (rw (c.rows-2.ensures, c.points-2.ensures) at c.in-Err.ensures.tells) c.unwritten.ensures.plan
