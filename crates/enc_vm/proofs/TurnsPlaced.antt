-- Frames stay placed by the steps and spawns of the program's own machine.
use Rattle.std.proofs.Common.{◌≡◌, ℕ, zero, suc, List, [], ◌∷◌, Option, Some, Result, Ok, Err, sym, subst}
use Rattle.std.specs.Prelude.{slice_get, slice_set, IfSome}
use Rattle.std.specs.declared.alloc.AllocError.{AllocError}
use Rattle.enc_plain.specs.Module.{Module}
use Rattle.enc_plain.specs.Sound.{IsSound}
use Rattle.enc_versions.specs.Version.{Version}
use Rattle.enc_vm.proofs.Anywhere.{placed_anywhere}
use Rattle.enc_vm.proofs.StaysPlaced.{another, spawns_are, steps_stay}
use Rattle.enc_vm.specs.Anywhere.{ArePlacedAnywhere}
use Rattle.enc_vm.specs.CallsSeen.{AreBodiesOf}
use Rattle.enc_vm.specs.EffectsSeen.{ended_as, Steps}
use Rattle.enc_vm.specs.Laws.{IsSpawnPlaced}
use Rattle.enc_frames.specs.Machine.{Task, Shared, MachineState, World, version_world}
use Rattle.enc_vm.specs.Placed.{IsTaskPlaced, AreTasksPlaced}
use Rattle.enc_vm.specs.Step.{Ending, ran, done, stopped, Stepped, step_task, spawn_in, begun}
use Rattle.enc_vm.specs.declared.ends.StepEnd.{StepEnd}
use Rattle.enc_vm.specs.declared.ends.StepEnd.TheVariants as end
use Rattle.enc_vm.specs.declared.seen.Seen.{Seen}

some_task : (w : World Version) (s : Shared) (t : Task Version) (ending : Ending) (seen : Seen) (o : Option (Stepped Version))
    → IfSome o (λ (x : Stepped Version). IsTaskPlaced w x.task) → o ≡ Some (ended_as ending seen s t) → IsTaskPlaced w t
some_task w s t ending seen o p is = subst (λ (x : Option (Stepped Version)). IfSome x (λ (y : Stepped Version). IsTaskPlaced w y.task)) is p

by_end : (w : World Version) (seen : Seen) (s r : Shared) (t u : Task Version) (o : Option (Stepped Version)) (result : Result StepEnd AllocError)
    → IsTaskPlaced w u → IfSome o (λ (x : Stepped Version). IsTaskPlaced w x.task) → Steps result seen s r t u o → IsTaskPlaced w t
by_end w seen s r t u o (Ok end.Absent) p q h = absurd h
by_end w seen s r t u o (Ok end.Idle) p q h = subst (IsTaskPlaced w) (sym h.2) p
by_end w seen s r t u o (Ok end.Ran) p q h = some_task w s t ran seen o q h
by_end w seen s r t u o (Ok end.Ended) p q h = some_task w s t done seen o q h
by_end w seen s r t u o (Ok (end.Trapped trap)) p q h = some_task w s t (stopped trap) seen o q h
by_end w seen s r t u o (Err e) p q h = subst (IsTaskPlaced w) (sym h.1) p

-- a task behind a step
pub step_placed : (users : ℕ → Option (List ℕ)) (m : Module) (methods : List (Option Version)) (seen : Seen) (s r : Shared) (t u : Task Version) (result : Result StepEnd AllocError)
    → IsSound m → AreBodiesOf users m methods → IsTaskPlaced (version_world users m methods) u
    → Steps result seen s r t u (step_task (version_world users m methods) r u) → IsTaskPlaced (version_world users m methods) t
step_placed users m methods seen s r t u result sound are p h =
    by_end (version_world users m methods) seen s r t u (step_task (version_world users m methods) r u) result p
    (steps_stay users m are.0 methods r u sound are.1 p) h

-- the tasks of the machine behind it
pub tasks_placed : (users : ℕ → Option (List ℕ)) (m : Module) (methods : List (Option Version)) (tasks : List (Task Version)) (i : ℕ) (t : Task Version)
    → ArePlacedAnywhere tasks → IsTaskPlaced (version_world users m methods) t → ArePlacedAnywhere (slice_set tasks i t)
tasks_placed users m methods tasks i t p q =
    placed_anywhere users m methods (slice_set tasks i t) (another (version_world users m methods) tasks i t (p users m methods) q)

nth_by : (w : World Version) (tasks : List (Task Version)) (i : ℕ) (t : Task Version) → AreTasksPlaced w tasks → slice_get tasks i ≡ Some t → IsTaskPlaced w t
nth_by w [] i t p e = absurd cc
nth_by w (x ∷ tasks) zero t p e = subst (IsTaskPlaced w) (some_is x t e) p.0
  where
    some_is : (a b : Task Version) → Some a ≡ Some b → a ≡ b
    some_is a b h = cc
nth_by w (x ∷ tasks) (suc i) t p e = nth_by w tasks i t p.1 e

-- one of a machine's tasks
pub nth_placed : (users : ℕ → Option (List ℕ)) (m : Module) (methods : List (Option Version)) (tasks : List (Task Version)) (i : ℕ) (t : Task Version)
    → ArePlacedAnywhere tasks → slice_get tasks i ≡ Some t → IsTaskPlaced (version_world users m methods) t
nth_placed users m methods tasks i t p e = nth_by (version_world users m methods) tasks i t (p users m methods) e

-- the tasks behind a spawn
pub spawn_keeps : (users : ℕ → Option (List ℕ)) (m : Module) (methods : List (Option Version)) (method : _) (s x : MachineState Version) (n : ℕ)
    → IsSound m → AreBodiesOf users m methods → ArePlacedAnywhere s.tasks → spawn_in (version_world users m methods) method s ≡ begun n x → ArePlacedAnywhere x.tasks
spawn_keeps users m methods method s x n sound are p is =
    placed_anywhere users m methods x.tasks
    (subst (IsSpawnPlaced (version_world users m methods)) is (spawns_are users m are.0 methods method s sound are.1 (p users m methods)))
