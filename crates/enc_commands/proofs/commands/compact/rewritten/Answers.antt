use Rattle.std.proofs.Common.{ap}
use Rattle.enc_agg.specs.Seen.{module_of_all}
use Rattle.enc_compact.specs.Moved.{module_moved}
use Rattle.enc_commands.specs.Loads.{followed}
use Rattle.enc_commands.proofs.Ordinary.{plan_of_written, plan_of_unwritten}
use Rattle.enc_commands.proofs.commands.compact.rewritten.Goals as goal

pub returns-in-Ok-rewrite-clause-plan : goal.returns-in-Ok-rewrite-clause-plan
returns-in-Ok-rewrite-clause-plan c =
    plan_of_written c.args.out.now (followed c.args.judged.now) c.in_ok-saving_moved-in-Ok-rewrite.field-0 c.in-Ok-rewrite.written.image c.in-Ok-rewrite.written.pdb _ _
    c.compact_laws.ensures.order (rw c.rows.ensures at c.sound.ensures) (ap (λ v. module_moved (module_of_all v)) (rw c.rows-2.ensures at c.in-Ok.ensures.module)) (rw (c.rows-2.ensures, c.points-2.ensures) at c.in-Ok.ensures.points) c.in-Ok-rewrite.ensures.tells c.in-Ok-rewrite.ensures.written
    c.in_ok-saving_moved-in-Ok-rewrite.ensures.outcome c.in_ok-saving_moved-in-Ok-rewrite.ensures.output c.in_ok-saving_moved-in-Ok-rewrite.ensures.saves

pub returns-clause-plan : goal.returns-clause-plan
returns-clause-plan c =
    plan_of_unwritten c.args.out.now (followed c.args.judged.now) c.in-Err.fault c.unwritten.result _ _
    (ap (λ v. module_moved (module_of_all v)) (rw c.rows-2.ensures at c.in-Ok.ensures.module)) (rw (c.rows-2.ensures, c.points-2.ensures) at c.in-Ok.ensures.points) c.in-Err.ensures.tells c.unwritten.ensures.plan
