use Rattle.std.proofs.Common.{◌≡◌, rules, arith, Some, ap, subst, ◌∙◌}
use Rattle.std.specs.Prelude.{slice_get, IfSome}
use Rattle.std.proofs.lemmas.Option.{slice_get-get_or}
use Rattle.enc_versions.specs.Version.{Version}
use Rattle.enc_frames.specs.Machine.{World, MachineState, version_world}
use Rattle.enc_vm.proofs.RoomAt.{room_there}
use Rattle.enc_vm.proofs.TurnsPlaced.{nth_placed}
use Rattle.enc_vm.specs.RoomSeen.{IsRoomForTask}
use Rattle.enc_vm.specs.Step.{task_at}
use Rattle.enc_vm.specs.SharedSeen.{shared_in}
use Rattle.enc_vm.proofs.machine.Machine.room.Goals as goal

pub returns-in-Some-get : goal.returns-in-Some-get
returns-in-Some-get c users m methods =
    let w : World Version = version_world users m methods in
    let s : MachineState Version = record { shared = shared_in c.self.inside.shared; tasks = c.self.inside.tasks.items } in
    let at : slice_get c.self.inside.tasks.items c.in-Some.i ≡ Some c.in-Some-get.task.now =
    slice_get-get_or c.self.inside.tasks.items c.in-Some.i c.in-Some-get.task.now (search rules) ∙ ap Some (search rules) in
    subst (λ (u : MachineState Version). IfSome (task_at u c.args.task) (IsRoomForTask w u.shared.store c.room.result)) c.self.view_is
    (room_there w s c.args.task c.in-Some.i c.room.result c.in-Some-get.task.now (omega (arith, c.in-Some.ensures)) at
    (c.room.ensures users m methods (nth_placed users m methods c.self.inside.tasks.items c.in-Some.i c.in-Some-get.task.now c.self.invariant.1 at)))
