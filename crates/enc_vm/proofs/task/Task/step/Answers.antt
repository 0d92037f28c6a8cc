use Rattle.std.proofs.Common.{rules, refl, sym, ap, ◌∙◌}
use Rattle.enc_vm.proofs.StepTurns.{ended_turn, going_turn, halted_turn}
use Rattle.enc_vm.specs.EffectsSeen.{task_by}
use Rattle.enc_vm.specs.declared.ends.TaskState.{TaskState}
use Rattle.enc_vm.specs.World.{world_in}
use Rattle.enc_vm.specs.SharedSeen.{shared_in}
use Rattle.enc_vm.proofs.task.Task.step.Goals as goal

pub returns-in_ok-outcome-in-Running-clause-steps : goal.returns-in_ok-outcome-in-Running-clause-steps
returns-in_ok-outcome-in-Running-clause-steps g c =
    going_turn (world_in g.V.ModuleView.users g.V.ModuleView.meaning c.args.world.now)
    c.in_ok-outcome-in-Running.outcome.state c.step_end_of.result c.in_ok-outcome-in-Running.outcome.seen
    (shared_in c.step.new.shared) (shared_in c.args.shared.now) c.step.new.self c.self.inside.thread c.args.self.now
    (search rules) c.step_end_of.ensures c.in_ok-outcome-in-Running.ensures

pub returns-in-Ended-clause-steps : goal.returns-in-Ended-clause-steps
returns-in-Ended-clause-steps g c = (
  ended_turn (world_in g.V.ModuleView.users g.V.ModuleView.meaning c.args.world.now)
      (shared_in c.args.shared.now) c.args.self.now
      (sym c.self.view_is ∙ ap (λ (k : TaskState). task_by k c.self.inside.thread) c.in-Ended.is),
  refl,
  refl,
)

pub returns-in-Trapped-clause-steps : goal.returns-in-Trapped-clause-steps
returns-in-Trapped-clause-steps g c = (
  halted_turn (world_in g.V.ModuleView.users g.V.ModuleView.meaning c.args.world.now)
      (shared_in c.args.shared.now) c.args.self.now c.in-Trapped.field-0 _
      (sym c.self.view_is ∙ ap (λ (k : TaskState). task_by k c.self.inside.thread) c.in-Trapped.is),
  refl,
  refl,
)
