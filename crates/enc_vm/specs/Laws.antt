-- The program's own machine, whose frames hold versions of methods, means the plain one, whose frames hold bodies
-- and points.
use Rattle.std.specs.Prelude.{◌≡◌, ℕ, List, Option, option_map, IfSome}
use Rattle.enc_base.specs.declared.token.Token.{Token}
use Rattle.enc_plain.specs.Debug.{PlainPdb}
use Rattle.enc_plain.specs.Module.{Module}
use Rattle.enc_plain.specs.Sound.{IsSound}
use Rattle.enc_versions.specs.StandFor.{AreVersionsOf}
use Rattle.enc_versions.specs.Version.{Version}
use Rattle.enc_frames.specs.Machine.{World, PlainCode, Task, Shared, MachineState, plain_world, version_world, task_meant, state_meant}
use Rattle.enc_vm.specs.Placed.{IsTaskPlaced, AreTasksPlaced}
use Rattle.enc_vm.specs.Step.{Stepped, Spawning, begun, too_many, no_method, step_task, task_at, state_with, spawn_in}

-- what a step, and a spawn, of a machine that holds versions means
abbrev pub stepped_meant : (ℕ → Option (List ℕ)) → Stepped Version → Stepped PlainCode
stepped_meant users x = record {
  shared = x.shared;
  task = task_meant users x.task;
  end = x.end;
  line = x.line;
  shown = x.shown;
}

abbrev pub spawning_meant : (ℕ → Option (List ℕ)) → Spawning Version → Spawning PlainCode
spawning_meant users (begun n s) = begun n (state_meant users s)
spawning_meant users too_many = too_many
spawning_meant users no_method = no_method

-- a step of what a task means is what its step means
abbrev pub StepsMean : Type 0
StepsMean = (users : ℕ → Option (List ℕ)) (m : Module) (debug : PlainPdb) (methods : List (Option Version)) (s : Shared)
    (t : Task Version)
    → IsSound m → AreVersionsOf users m debug methods
    → step_task (plain_world m debug) s (task_meant users t)
    ≡ option_map (stepped_meant users) (step_task (version_world users m methods) s t)

-- and so is a spawn
abbrev pub SpawnsMean : Type 0
SpawnsMean = (users : ℕ → Option (List ℕ)) (m : Module) (debug : PlainPdb) (methods : List (Option Version))
    (method : Token) (s : MachineState Version)
    → IsSound m → AreVersionsOf users m debug methods
    → spawn_in (plain_world m debug) method (state_meant users s)
    ≡ spawning_meant users (spawn_in (version_world users m methods) method s)

-- a machine that a spawn makes has placed frames alone
abbrev pub IsSpawnPlaced : {C : Type 0} → World C → Spawning C → Type 0
IsSpawnPlaced w (begun n s) = AreTasksPlaced w s.tasks
IsSpawnPlaced w too_many = Unit {0}
IsSpawnPlaced w no_method = Unit {0}

-- a step of a task whose frames are placed leaves them so, by a sound module
abbrev pub PlainStepsStayPlaced : Type 0
PlainStepsStayPlaced = (m : Module) (debug : PlainPdb) (s : Shared) (t : Task PlainCode)
    → IsSound m → IsTaskPlaced (plain_world m debug) t
    → IfSome (step_task (plain_world m debug) s t)
    (λ (x : Stepped PlainCode). IsTaskPlaced (plain_world m debug) x.task)

-- and a new task's frames are
abbrev pub PlainSpawnsArePlaced : Type 0
PlainSpawnsArePlaced = (m : Module) (debug : PlainPdb) (method : Token) (s : MachineState PlainCode)
    → IsSound m → AreTasksPlaced (plain_world m debug) s.tasks
    → IsSpawnPlaced (plain_world m debug) (spawn_in (plain_world m debug) method s)

-- the same of frames that hold versions
abbrev pub StepsStayPlaced : Type 0
StepsStayPlaced = (users : ℕ → Option (List ℕ)) (m : Module) (debug : PlainPdb) (methods : List (Option Version))
    (s : Shared) (t : Task Version)
    → IsSound m → AreVersionsOf users m debug methods → IsTaskPlaced (version_world users m methods) t
    → IfSome (step_task (version_world users m methods) s t)
    (λ (x : Stepped Version). IsTaskPlaced (version_world users m methods) x.task)

abbrev pub SpawnsArePlaced : Type 0
SpawnsArePlaced = (users : ℕ → Option (List ℕ)) (m : Module) (debug : PlainPdb) (methods : List (Option Version))
    (method : Token)
    → (s : MachineState Version) → IsSound m → AreVersionsOf users m debug methods
    → AreTasksPlaced (version_world users m methods) s.tasks
    → IsSpawnPlaced (version_world users m methods) (spawn_in (version_world users m methods) method s)

-- a machine's tasks, and the machine after a task's step, mean those of what it means
abbrev pub TasksMean : Type 0
TasksMean = (users : ℕ → Option (List ℕ)) (s : MachineState Version) (i : ℕ)
    → task_at (state_meant users s) i ≡ option_map (task_meant users) (task_at s i)

abbrev pub StatesMean : Type 0
StatesMean = (users : ℕ → Option (List ℕ)) (i : ℕ) (x : Stepped Version) (s : MachineState Version)
    → state_with i (stepped_meant users x) (state_meant users s) ≡ state_meant users (state_with i x s)

-- frames stay placed when the module and the PDB are others
abbrev pub PlainPlacesAreKept : Type 0
PlainPlacesAreKept = (m n : Module) (debug other : PlainPdb) (t : Task PlainCode) → IsTaskPlaced (plain_world m debug) t
    → IsTaskPlaced (plain_world n other) t

-- what placed frames mean is placed
abbrev pub PlacesAreMeant : Type 0
PlacesAreMeant = (users : ℕ → Option (List ℕ)) (m : Module) (debug : PlainPdb) (methods : List (Option Version))
    (t : Task Version)
    → IsTaskPlaced (version_world users m methods) t → IsTaskPlaced (plain_world m debug) (task_meant users t)
