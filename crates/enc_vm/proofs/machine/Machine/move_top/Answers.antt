use Rattle.std.proofs.Common.{rules, arith, ◌≡◌, true, Some, sym, ap, subst, ◌∙◌}
use Rattle.std.specs.Prelude.{slice_get, slice_set}
use Rattle.std.proofs.lemmas.Option.{slice_get-get_or}
use Rattle.enc_versions.specs.Version.{Version}
use Rattle.enc_frames.specs.Machine.{MachineState, Task}
use Rattle.enc_vm.specs.Moves.{is_idle, moved_top}
use Rattle.enc_vm.specs.Step.{task_at}
use Rattle.enc_vm.proofs.Moved.{either_placed, idle_at, moved_by_task, ok_then}
use Rattle.enc_vm.specs.SharedSeen.{shared_in}
use Rattle.enc_vm.proofs.machine.Machine.move_top.Goals as goal

pub invariant_of-self-2 : goal.invariant_of-self-2
invariant_of-self-2 c =
    let s : MachineState Version = record { shared = shared_in c.self.inside.shared; tasks = c.self.inside.tasks.items } in
    let there : slice_get c.self.inside.tasks.items c.in-Some.i ≡ Some c.in-Some-get_mut.task.now = slice_get-get_or c.self.inside.tasks.items c.in-Some.i c.in-Some-get_mut.task.now (search rules) ∙ ap Some (search rules) in (
      search rules,
      either_placed c.move_top.result c.self.inside.tasks.items c.in-Some.i c.args.code.value c.args.offset c.args.more.now c.in-Some-get_mut.task.now c.move_top.new.self
          there
          (idle_at c.args.task c.in-Some.i s c.in-Some-get_mut.task.now (omega (arith, c.in-Some.ensures)) there
          (subst (λ (u : MachineState Version). is_idle (task_at u c.args.task) ≡ true) (sym c.self.view_is) c.requires.idle))
          c.requires.begins c.self.invariant.1 c.move_top.ensures.ok c.move_top.ensures.err,
    )

pub returns-clause-ok : goal.returns-clause-ok
returns-clause-ok c =
    let s : MachineState Version = record { shared = shared_in c.self.inside.shared; tasks = c.self.inside.tasks.items } in
    let there : slice_get c.self.inside.tasks.items c.in-Some.i ≡ Some c.in-Some-get_mut.task.now = slice_get-get_or c.self.inside.tasks.items c.in-Some.i c.in-Some-get_mut.task.now (search rules) ∙ ap Some (search rules) in
    ok_then c.move_top.result
    (λ ok. ap (λ (t : Task Version). record { shared = shared_in c.self.inside.shared; tasks = slice_set c.self.inside.tasks.items c.in-Some.i t }) ok
    ∙ sym (moved_by_task c.args.task c.in-Some.i c.args.code.value c.args.offset c.args.more.now s c.in-Some-get_mut.task.now (omega (arith, c.in-Some.ensures)) there)
    ∙ ap (moved_top c.args.task c.args.code.value c.args.offset c.args.more.now) c.self.view_is)
    c.move_top.ensures.ok
