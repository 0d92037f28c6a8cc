use Rattle.std.proofs.Common.{rules, arith, Some, refl, sym, ap, subst, ◌∙◌}
use Rattle.std.specs.Prelude.{slice_set}
use Rattle.std.proofs.lemmas.Option.{slice_get-get_or, slice_get_past}
use Rattle.enc_versions.specs.Version.{Version}
use Rattle.enc_vm.proofs.Turned.{none_at, none_behind, turned}
use Rattle.enc_vm.proofs.TurnsPlaced.{nth_placed, step_placed, tasks_placed}
use Rattle.enc_frames.specs.Machine.{MachineState, World}
use Rattle.enc_vm.specs.Turns.{IsTurn, machine_turn}
use Rattle.enc_vm.specs.World.{world_in}
use Rattle.enc_vm.specs.SharedSeen.{shared_in}
use Rattle.enc_vm.proofs.machine.Machine.step_version.Goals as goal

pub returns-in_default-clause-turn : goal.returns-in_default-clause-turn
returns-in_default-clause-turn g c = (
  none_at (world_in g.V.ModuleView.users g.V.ModuleView.meaning c.args.world.now) c.args.task c.args.self.now
      (omega (arith, c.in_default.ensures)),
  refl,
)

pub step-requires : goal.step-requires
step-requires g c = record {
  placed = nth_placed (g.V.ModuleView.users c.args.world.now.view) (g.V.ModuleView.meaning c.args.world.now.view) c.args.world.now.methods
      c.self.inside.tasks.items c.in-Some.i c.in-Some-get_mut.task.now c.self.invariant.1
      (slice_get-get_or c.self.inside.tasks.items c.in-Some.i c.in-Some-get_mut.task.now (search rules) ∙ ap Some (search rules));
}

pub invariant_of-self-in-Some-get_mut : goal.invariant_of-self-in-Some-get_mut
invariant_of-self-in-Some-get_mut g c =
    let users : _ = g.V.ModuleView.users c.args.world.now.view in
    let m : _ = g.V.ModuleView.meaning c.args.world.now.view in
    let methods : _ = c.args.world.now.methods in (
      search rules,
      tasks_placed users m methods c.self.inside.tasks.items c.in-Some.i c.step.new.self c.self.invariant.1
          (step_placed users m methods c.step.new.seen (shared_in c.step.new.shared) (shared_in c.self.inside.shared)
          c.step.new.self c.in-Some-get_mut.task.now c.step.result c.requires.sound c.bodies_law.ensures
          (nth_placed users m methods c.self.inside.tasks.items c.in-Some.i c.in-Some-get_mut.task.now c.self.invariant.1
          (slice_get-get_or c.self.inside.tasks.items c.in-Some.i c.in-Some-get_mut.task.now (search rules) ∙ ap Some (search rules)))
          c.step.ensures.steps),
    )

pub returns-in-None-clause-turn : goal.returns-in-None-clause-turn
returns-in-None-clause-turn g c =
    let w : World Version = world_in g.V.ModuleView.users g.V.ModuleView.meaning c.args.world.now in
    let s : MachineState Version = record { shared = shared_in c.self.inside.shared; tasks = c.self.inside.tasks.items } in (
      ap (machine_turn w c.args.task) (sym c.self.view_is) ∙ none_behind w c.args.task c.in-Some.i s (omega (arith, c.in-Some.ensures))
          (slice_get_past c.self.inside.tasks.items c.in-Some.i (search rules)),
      c.self.view_is,
    )

pub returns-in-Some-get_mut-clause-turn : goal.returns-in-Some-get_mut-clause-turn
returns-in-Some-get_mut-clause-turn g c =
    let w : World Version = world_in g.V.ModuleView.users g.V.ModuleView.meaning c.args.world.now in
    let s : MachineState Version = record { shared = shared_in c.self.inside.shared; tasks = c.self.inside.tasks.items } in
    let behind : MachineState Version = record {
      shared = shared_in c.step.new.shared;
      tasks = slice_set c.self.inside.tasks.items c.in-Some.i c.step.new.self;
    } in
    subst (λ (u : MachineState Version). IsTurn c.step.result c.step.new.seen behind u (machine_turn w c.args.task u)) c.self.view_is
    (turned w c.args.task c.in-Some.i s c.in-Some-get_mut.task.now c.step.new.self (shared_in c.step.new.shared) c.step.new.seen c.step.result
    (omega (arith, c.in-Some.ensures))
    (slice_get-get_or c.self.inside.tasks.items c.in-Some.i c.in-Some-get_mut.task.now (search rules) ∙ ap Some (search rules)) c.step.ensures.steps)
