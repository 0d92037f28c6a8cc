-- A step of the program's machine, and a spawn, means the plain machine's.
use Rattle.std.proofs.Common.{◌≡◌, ℕ, zero, suc, slice_get, slice_set, List, [], ◌∷◌, map, Option, Some, None, refl, ap, ◌∙◌, sym, option_map}
use Rattle.enc_plain.specs.Debug.{PlainPdb}
use Rattle.enc_plain.specs.Module.{Module}
use Rattle.enc_plain.specs.Sound.{IsSound}
use Rattle.enc_versions.specs.StandFor.{AreVersionsOf}
use Rattle.enc_versions.specs.Version.{Version}
use Rattle.enc_vm.proofs.Mapped.{task_by, state_by, stepped_with_codes, spawning_with_codes, Agree}
use Rattle.enc_vm.proofs.NowMeant.{now_meant}
use Rattle.enc_vm.proofs.StepsMapped.{step_same, spawn_same}
use Rattle.enc_vm.specs.Laws.{stepped_meant, spawning_meant, StepsMean, SpawnsMean, TasksMean, StatesMean}
use Rattle.enc_frames.specs.Machine.{PlainCode, Task, going, ended, trapped, MachineState, code_meant, task_meant, state_meant, plain_world, version_world}
use Rattle.enc_vm.specs.Step.{Stepped, Spawning, begun, too_many, no_method, step_task, spawn_in}

-- the worlds agree
pub worlds_agree : (users : ℕ → Option (List ℕ)) (m : Module) (debug : PlainPdb) (methods : List (Option Version))
    → IsSound m → AreVersionsOf users m debug methods → Agree (code_meant users) (version_world users m methods) (plain_world m debug)
unfolding plain_world version_world
worlds_agree users m debug methods sound are = record {
  plain = refl;
  body = λ v. refl;
  points = λ v. refl;
  now = λ t. now_meant users m debug methods t sound are;
}

-- what a task means is the task by what its codes mean
task_is : (users : ℕ → Option (List ℕ)) (t : Task Version) → task_meant users t ≡ task_by (code_meant users) t
task_is users (going t) = refl
task_is users ended = refl
task_is users (trapped x frames) = refl

tasks_are : (users : ℕ → Option (List ℕ)) (ts : List (Task Version)) → map (task_meant users) ts ≡ map (task_by (code_meant users)) ts
tasks_are users [] = refl
tasks_are users (t ∷ ts) =
    ap (λ (x : Task PlainCode). x ∷ map (task_meant users) ts) (task_is users t) ∙ ap (λ (xs : List (Task PlainCode)). task_by (code_meant users) t ∷ xs) (tasks_are users ts)

state_is : (users : ℕ → Option (List ℕ)) (s : MachineState Version) → state_meant users s ≡ state_by (code_meant users) s
state_is users s = ap (λ (ts : List (Task PlainCode)). record { shared = s.shared; tasks = ts }) (tasks_are users s.tasks)

stepped_is : (users : ℕ → Option (List ℕ)) (o : Option (Stepped Version)) → option_map (stepped_with_codes (code_meant users)) o ≡ option_map (stepped_meant users) o
stepped_is users None = refl
stepped_is users (Some x) =
    ap (λ (t : Task PlainCode). Some (record { shared = x.shared; task = t; end = x.end; line = x.line; shown = x.shown })) (sym (task_is users x.task))

spawning_is : (users : ℕ → Option (List ℕ)) (x : Spawning Version) → spawning_with_codes (code_meant users) x ≡ spawning_meant users x
spawning_is users (begun n s) = ap (λ (z : MachineState PlainCode). begun n z) (sym (state_is users s))
spawning_is users too_many = refl
spawning_is users no_method = refl

pub steps_mean : StepsMean
steps_mean users m debug methods s t sound are =
    ap (λ (x : Task PlainCode). step_task (plain_world m debug) s x) (task_is users t)
    ∙ step_same (code_meant users) (version_world users m methods) (plain_world m debug) s t (worlds_agree users m debug methods sound are)
    ∙ stepped_is users (step_task (version_world users m methods) s t)

pub spawns_mean : SpawnsMean
spawns_mean users m debug methods method s sound are =
    ap (λ (x : MachineState PlainCode). spawn_in (plain_world m debug) method x) (state_is users s)
    ∙ spawn_same (code_meant users) (version_world users m methods) (plain_world m debug) method s (worlds_agree users m debug methods sound are)
    ∙ spawning_is users (spawn_in (version_world users m methods) method s)

-- tasks by their numbers
pub nth_by : {A B : Type 0} (g : A → B) (xs : List A) (i : ℕ) → slice_get (map g xs) i ≡ option_map g (slice_get xs i)
nth_by g [] i = refl
nth_by g (x ∷ xs) zero = refl
nth_by g (x ∷ xs) (suc i) = nth_by g xs i

pub set_by : {A B : Type 0} (g : A → B) (xs : List A) (i : ℕ) (y : A) → slice_set (map g xs) i (g y) ≡ map g (slice_set xs i y)
set_by g [] i y = refl
set_by g (x ∷ xs) zero y = refl
set_by g (x ∷ xs) (suc i) y = ap (λ (zs : List _). g x ∷ zs) (set_by g xs i y)

pub tasks_mean : TasksMean
tasks_mean users s zero = refl
tasks_mean users s (suc i) = nth_by (task_meant users) s.tasks i

pub states_mean : StatesMean
states_mean users i x s = ap (λ (ts : List (Task PlainCode)). record { shared = x.shared; tasks = ts }) (set_by (task_meant users) s.tasks i x.task)
