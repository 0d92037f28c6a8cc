-- Machines whose frames are placed stay so under steps and spawns.
use Rattle.std.proofs.Common.{ℕ, zero, suc, List, [], ◌∷◌, ◌++◌, Option, Some, None, IfSome, nat_le, length, slice_get, slice_set}
use Rattle.enc_base.specs.declared.token.Token.{Token}
use Rattle.enc_vm.proofs.CallsPlaced.{AreSoundNow}
use Rattle.enc_vm.proofs.Placed.{AfterSome, either_way}
use Rattle.enc_vm.proofs.SoundNow.{plain_now, version_now}
use Rattle.enc_vm.proofs.StepsPlaced.{IsStepPlaced, task_placed, new_task_placed, frame_now_placed}
use Rattle.enc_vm.specs.Calls.{declaring}
use Rattle.enc_vm.specs.Laws.{IsSpawnPlaced, StepsStayPlaced, SpawnsArePlaced, PlainStepsStayPlaced, PlainSpawnsArePlaced}
use Rattle.enc_frames.specs.Machine.{World, Frame, Task, going, MachineState, plain_world, version_world}
use Rattle.enc_vm.specs.Placed.{IsFramePlaced, IsTaskPlaced, AreTasksPlaced}
use Rattle.enc_vm.specs.Step.{Stepped, task_at, state_with, most_tasks, may_spawn, first_thread, frame_now, constructor_frame, spawned_with, spawn_in, step_task}

there : {A : Type 0} (P : A → Type 0) (o : Option A) → AfterSome P o → IfSome o P
there P None p = tt
there P (Some x) p = p

-- one task more, or another in its place
one_more : {C : Type 0} (w : World C) (tasks : List (Task C)) (t : Task C) → AreTasksPlaced w tasks → IsTaskPlaced w t → AreTasksPlaced w (tasks ++ t ∷ [])
one_more w [] t p q = (q, tt)
one_more w (x ∷ tasks) t p q = (p.0, one_more w tasks t p.1 q)

pub another : {C : Type 0} (w : World C) (tasks : List (Task C)) (i : ℕ) (t : Task C) → AreTasksPlaced w tasks → IsTaskPlaced w t → AreTasksPlaced w (slice_set tasks i t)
another w [] i t p q = tt
another w (x ∷ tasks) zero t p q = (q, p.1)
another w (x ∷ tasks) (suc i) t p q = (p.0, another w tasks i t p.1 q)

spawned_placed : {C : Type 0} (w : World C) (method : Token) (s : MachineState C) (o : Option (Frame C)) → AreSoundNow w → AreTasksPlaced w s.tasks → AfterSome (IsFramePlaced w) o
    → IsSpawnPlaced w (spawned_with w method o s)
spawned_placed w method s None sound p q = tt
spawned_placed w method s (Some f) sound p q =
    one_more w s.tasks (going (first_thread f (constructor_frame w s.shared (declaring w.plain method)))) p (new_task_placed w s.shared (declaring w.plain method) f sound q)

pub spawn_placed : {C : Type 0} (w : World C) (method : Token) (s : MachineState C) → AreSoundNow w → AreTasksPlaced w s.tasks → IsSpawnPlaced w (spawn_in w method s)
unfolding spawn_in
spawn_placed w method s sound p =
    either_way (IsSpawnPlaced w) (nat_le most_tasks (length s.tasks)) _ _ tt
    (either_way (IsSpawnPlaced w) (may_spawn w.plain method) _ _ (spawned_placed w method s (frame_now w method) sound p (frame_now_placed w method sound)) tt)

pub plain_steps : PlainStepsStayPlaced
plain_steps m debug s t sound p = there (IsStepPlaced (plain_world m debug)) (step_task (plain_world m debug) s t) (task_placed (plain_world m debug) s t (plain_now m debug sound) p)

pub plain_spawns : PlainSpawnsArePlaced
plain_spawns m debug method s sound p = spawn_placed (plain_world m debug) method s (plain_now m debug sound) p

pub steps_stay : StepsStayPlaced
steps_stay users m debug methods s t sound are p =
    there (IsStepPlaced (version_world users m methods)) (step_task (version_world users m methods) s t)
    (task_placed (version_world users m methods) s t (version_now users m debug methods sound are) p)

pub spawns_are : SpawnsArePlaced
spawns_are users m debug methods method s sound are p = spawn_placed (version_world users m methods) method s (version_now users m debug methods sound are) p

-- the tasks of a machine, and of the machine after a step
nth_placed : {C : Type 0} (w : World C) (tasks : List (Task C)) (i : ℕ) → AreTasksPlaced w tasks → AfterSome (IsTaskPlaced w) (slice_get tasks i)
nth_placed w [] i p = tt
nth_placed w (t ∷ tasks) zero p = p.0
nth_placed w (t ∷ tasks) (suc i) p = nth_placed w tasks i p.1

pub task_at_placed : {C : Type 0} (w : World C) (s : MachineState C) (i : ℕ) → AreTasksPlaced w s.tasks → IfSome (task_at s i) (IsTaskPlaced w)
task_at_placed w s zero p = tt
task_at_placed w s (suc i) p = there (IsTaskPlaced w) (slice_get s.tasks i) (nth_placed w s.tasks i p)

pub state_with_placed : {C : Type 0} (w : World C) (s : MachineState C) (i : ℕ) (x : Stepped C) → AreTasksPlaced w s.tasks → IsTaskPlaced w x.task
    → AreTasksPlaced w ((state_with i x s).tasks)
state_with_placed w s i x p q = another w s.tasks i x.task p q
