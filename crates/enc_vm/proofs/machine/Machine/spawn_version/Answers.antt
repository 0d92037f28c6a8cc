use Rattle.std.proofs.Common.{rules, ◌≡◌, ℕ, ◌+◌, ◌≤◌, List, [], ◌∷◌, ◌++◌, length, refl, sym, ap, subst, ◌∙◌}
use Rattle.enc_versions.specs.Version.{Version}
use Rattle.enc_vm.proofs.Begun.{limit, no_spawn, no_frame, task_begun}
use Rattle.enc_vm.proofs.TurnsPlaced.{spawn_keeps}
use Rattle.enc_vm.specs.Anywhere.{ArePlacedAnywhere}
use Rattle.enc_frames.specs.FramesSeen.{shared_by}
use Rattle.enc_frames.specs.Machine.{MachineState, World, Task, going, version_world}
use Rattle.enc_vm.specs.Step.{spawn_in, begun}
use Rattle.enc_vm.specs.SharedSeen.{shared_in}
use Rattle.enc_vm.proofs.machine.Machine.spawn_version.Goals as goal

pub returns-then-len-ge-MOST_TASKS : goal.returns-then-len-ge-MOST_TASKS
returns-then-len-ge-MOST_TASKS g c =
    let w : World Version = version_world (g.V.ModuleView.users c.args.view.now) (g.V.ModuleView.meaning c.args.view.now) c.args.versions.now.methods in
    let s : MachineState Version = record { shared = shared_in c.self.inside.shared; tasks = c.self.inside.tasks.items } in (
      ap (spawn_in w c.args.method) (sym c.self.view_is)
          ∙ limit (g.V.ModuleView.users c.args.view.now) (g.V.ModuleView.meaning c.args.view.now) c.args.versions.now.methods c.args.method s (search rules),
      refl,
    )

pub returns-then-not-may_spawn : goal.returns-then-not-may_spawn
returns-then-not-may_spawn g c =
    let w : World Version = version_world (g.V.ModuleView.users c.args.view.now) (g.V.ModuleView.meaning c.args.view.now) c.args.versions.now.methods in
    let s : MachineState Version = record { shared = shared_in c.self.inside.shared; tasks = c.self.inside.tasks.items } in (
      ap (spawn_in w c.args.method) (sym c.self.view_is)
          ∙ no_spawn (g.V.ModuleView.users c.args.view.now) (g.V.ModuleView.meaning c.args.view.now) c.args.versions.now.methods c.args.method s (search rules)
          (sym c.if-not-may_spawn.ensures.may),
      refl,
    )

pub returns-in_default : goal.returns-in_default
returns-in_default g c =
    let w : World Version = version_world (g.V.ModuleView.users c.args.view.now) (g.V.ModuleView.meaning c.args.view.now) c.args.versions.now.methods in
    let s : MachineState Version = record { shared = shared_in c.self.inside.shared; tasks = c.self.inside.tasks.items } in (
      ap (spawn_in w c.args.method) (sym c.self.view_is)
          ∙ no_frame (g.V.ModuleView.users c.args.view.now) (g.V.ModuleView.meaning c.args.view.now) c.args.versions.now.methods c.args.method s (search rules)
          (sym c.if-not-may_spawn.ensures.may) (sym c.in_ok-frame.ensures ∙ c.in_default.is),
      refl,
    )

pub invariant_of-self : goal.invariant_of-self
invariant_of-self g c =
    let same : c.self.inside.tasks.items ≡ c.push.new.self.items = search rules in
    subst (λ (l : List (Task Version)). (length l ≤ 64) × ArePlacedAnywhere l) same c.self.invariant

pub returns : goal.returns
returns g c =
    let w : World Version = version_world (g.V.ModuleView.users c.args.view.now) (g.V.ModuleView.meaning c.args.view.now) c.args.versions.now.methods in
    let s : MachineState Version = record { shared = shared_in c.self.inside.shared; tasks = c.self.inside.tasks.items } in
    let more : c.self.inside.tasks.items ++ going c.in_ok-thread.thread ∷ [] ≡ c.push.new.self.items = search rules in
    let count : length c.self.inside.tasks.items + 1 ≡ c.len-2.result = search rules in
    ap (spawn_in w c.args.method) (sym c.self.view_is)
    ∙ task_begun (g.V.ModuleView.users c.args.view.now) (g.V.ModuleView.meaning c.args.view.now) c.args.versions.now.methods c.args.method c.declaring-owner.result s
    c.in-Some.frame c.in_ok-constructor.constructor c.in_ok-thread.thread c.in_ok-touched.touched (search rules)
    (sym c.if-not-may_spawn.ensures.may) (sym c.in_ok-frame.ensures ∙ c.in-Some.is) c.declaring-owner.ensures.owner
    (c.in_ok-constructor.ensures c.self.inside.shared.objects) c.in_ok-thread.ensures c.in_ok-touched.ensures
    ∙ ap (λ (n : ℕ). begun n (record { shared = shared_by c.self.inside.shared.objects c.in_ok-touched.touched; tasks = c.self.inside.tasks.items ++ going c.in_ok-thread.thread ∷ [] })) count
    ∙ ap (λ (l : List (Task Version)). begun c.len-2.result (record { shared = shared_by c.self.inside.shared.objects c.in_ok-touched.touched; tasks = l })) more

pub invariant_of-self-2 : goal.invariant_of-self-2
invariant_of-self-2 g c =
    let users : _ = g.V.ModuleView.users c.args.view.now in
    let m : _ = g.V.ModuleView.meaning c.args.view.now in
    let methods : _ = c.args.versions.now.methods in
    let s : MachineState Version = record { shared = shared_in c.self.inside.shared; tasks = c.self.inside.tasks.items } in
    let more : c.self.inside.tasks.items ++ going c.in_ok-thread.thread ∷ [] ≡ c.push.new.self.items = search rules in (
      search rules,
      subst ArePlacedAnywhere more
          (spawn_keeps users m methods c.args.method s _ _ c.requires.sound c.requires.versions c.self.invariant.1
          (task_begun users m methods c.args.method c.declaring-owner.result s
          c.in-Some.frame c.in_ok-constructor.constructor c.in_ok-thread.thread c.in_ok-touched.touched (search rules)
          (sym c.if-not-may_spawn.ensures.may) (sym c.in_ok-frame.ensures ∙ c.in-Some.is) c.declaring-owner.ensures.owner
          (c.in_ok-constructor.ensures c.self.inside.shared.objects) c.in_ok-thread.ensures c.in_ok-touched.ensures)),
    )
