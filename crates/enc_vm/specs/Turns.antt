-- What a step of the machine comes to (ECMA-335 I.12.3.2).
use Rattle.std.specs.Prelude.{◌≡◌, ℕ, zero, suc, List, Option, Some, None, option_map, Result, Ok, Err}
use Rattle.std.specs.declared.alloc.AllocError.{AllocError}
use Rattle.enc_base.specs.declared.token.Token.{Token}
use Rattle.enc_plain.specs.Debug.{PlainPdb}
use Rattle.enc_plain.specs.Module.{Module}
use Rattle.enc_versions.specs.StandFor.{AreVersionsOf}
use Rattle.enc_versions.specs.Version.{Version}
use Rattle.enc_frames.specs.Machine.{World, MachineState, Task, plain_world, state_meant}
use Rattle.enc_frames.specs.Results.{Shown}
use Rattle.enc_vm.specs.Step.{Ending, ran, done, stopped, Stepped, step_task, task_at, state_with, Spawning, begun, too_many, no_method, spawn_in}
use Rattle.enc_vm.specs.declared.seen.Seen.{Seen}
use Rattle.enc_vm.specs.declared.ends.StepEnd.{StepEnd}
use Rattle.enc_vm.specs.declared.ends.StepEnd.TheVariants as end
use Rattle.enc_vm.specs.declared.ends.SpawnEnd.{SpawnEnd}
use Rattle.enc_vm.specs.declared.ends.SpawnEnd.TheVariants as spawned

-- nothing where no task has the number, nothing where it has ended or trapped, and else how it ended, the machine
-- behind it and what it shows
pub data MachineTurn (C : Type 0) : Type 0 where
  absent : MachineTurn C
  idle : MachineTurn C
  went : Ending → MachineState C → Option ℕ → Shown → MachineTurn C

abbrev pub turn_by : {C : Type 0} → ℕ → MachineState C → Option (Option (Stepped C)) → MachineTurn C
turn_by n s None = absent
turn_by n s (Some None) = idle
turn_by n s (Some (Some x)) = went x.end (state_with n x s) x.line x.shown

-- the turn of a task, by its number from 1
unfoldable pub machine_turn : {C : Type 0} → World C → ℕ → MachineState C → MachineTurn C
machine_turn w zero s = absent
machine_turn w (suc i) s = turn_by i s (option_map (λ (t : Task _). step_task w s.shared t) (task_at s (suc i)))

-- what a step shows, as it was handed out
abbrev pub shown_in : Seen → Shown
shown_in seen = record { entered = seen.entered; left = seen.left; wrote = seen.wrote }

-- a step's answer, the machine behind it and what it shows are those of the turn; without memory nothing has changed
abbrev pub IsTurn : {C : Type 0} → Result StepEnd AllocError → Seen → MachineState C → MachineState C → MachineTurn C
    → Type 0
IsTurn (Ok end.Absent) seen new old said = (said ≡ absent) × (new ≡ old)
IsTurn (Ok end.Idle) seen new old said = (said ≡ idle) × (new ≡ old)
IsTurn (Ok end.Ran) seen new old said = said ≡ went ran new seen.line (shown_in seen)
IsTurn (Ok end.Ended) seen new old said = said ≡ went done new seen.line (shown_in seen)
IsTurn (Ok (end.Trapped trap)) seen new old said = said ≡ went (stopped trap) new seen.line (shown_in seen)
IsTurn (Err e) seen new old said = new ≡ old

-- a spawn's answer and the machine behind it are what is defined; where there is no new task, and without memory,
-- nothing has changed
abbrev pub IsSpawn : {C : Type 0} → Result SpawnEnd AllocError → MachineState C → MachineState C → Spawning C → Type 0
IsSpawn (Ok (spawned.Task n)) new old said = said ≡ begun n new
IsSpawn (Ok spawned.Limit) new old said = (said ≡ too_many) × (new ≡ old)
IsSpawn (Ok spawned.Method) new old said = (said ≡ no_method) × (new ≡ old)
IsSpawn (Err e) new old said = new ≡ old

-- the turn of the plain machine: of a module and each PDB that the newest versions stand for
abbrev pub IsPlainTurn : (ℕ → Option (List ℕ)) → Module → List (Option Version) → ℕ → Result StepEnd AllocError → Seen
    → MachineState Version
    → MachineState Version → Type 0
IsPlainTurn users m methods task result seen new old =
    (debug : PlainPdb) → AreVersionsOf users m debug methods
    → IsTurn result seen (state_meant users new) (state_meant users old)
    (machine_turn (plain_world m debug) task (state_meant users old))

-- and its spawn
abbrev pub IsPlainSpawn : (ℕ → Option (List ℕ)) → Module → List (Option Version) → Token → Result SpawnEnd AllocError
    → MachineState Version
    → MachineState Version → Type 0
IsPlainSpawn users m methods method result new old =
    (debug : PlainPdb) → AreVersionsOf users m debug methods
    → IsSpawn result (state_meant users new) (state_meant users old)
    (spawn_in (plain_world m debug) method (state_meant users old))

-- what is shown stays as it was where there was no step, and without memory
abbrev pub KeepsSeen : Result StepEnd AllocError → Seen → Seen → Type 0
KeepsSeen (Ok end.Absent) new old = new ≡ old
KeepsSeen (Ok end.Idle) new old = new ≡ old
KeepsSeen (Err e) new old = new ≡ old
KeepsSeen (Ok end.Ran) new old = Unit {0}
KeepsSeen (Ok end.Ended) new old = Unit {0}
KeepsSeen (Ok (end.Trapped trap)) new old = Unit {0}
