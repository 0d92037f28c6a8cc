-- What the program's machine does means what the plain one does.
use Rattle.std.proofs.Common.{◌≡◌, ℕ, zero, suc, List, Option, Some, None, Result, Ok, Err, refl, sym, ap, subst, ◌∙◌}
use Rattle.std.specs.Prelude.{option_map}
use Rattle.std.specs.declared.alloc.AllocError.{AllocError}
use Rattle.enc_base.specs.declared.token.Token.{Token}
use Rattle.enc_plain.specs.Debug.{PlainPdb}
use Rattle.enc_plain.specs.Module.{Module}
use Rattle.enc_plain.specs.Sound.{IsSound}
use Rattle.enc_versions.specs.StandFor.{AreVersionsOf}
use Rattle.enc_versions.specs.Version.{Version}
use Rattle.enc_vm.proofs.StepsMeant.{steps_mean, spawns_mean, tasks_mean, states_mean}
use Rattle.enc_vm.specs.Laws.{stepped_meant, spawning_meant}
use Rattle.enc_frames.specs.Machine.{PlainCode, Task, MachineState, task_meant, state_meant, plain_world, version_world}
use Rattle.enc_vm.specs.Step.{Stepped, Spawning, step_task, task_at, spawn_in}
use Rattle.enc_vm.specs.Turns.{MachineTurn, absent, idle, went, turn_by, machine_turn, IsTurn, IsSpawn, IsPlainTurn, IsPlainSpawn}
use Rattle.enc_vm.specs.declared.ends.StepEnd.{StepEnd}
use Rattle.enc_vm.specs.declared.ends.StepEnd.TheVariants as end
use Rattle.enc_vm.specs.declared.ends.SpawnEnd.{SpawnEnd}
use Rattle.enc_vm.specs.declared.ends.SpawnEnd.TheVariants as spawned
use Rattle.enc_vm.specs.declared.seen.Seen.{Seen}

abbrev turn_meant : (ℕ → Option (List ℕ)) → MachineTurn Version → MachineTurn PlainCode
turn_meant users absent = absent
turn_meant users idle = idle
turn_meant users (went e s line shown) = went e (state_meant users s) line shown

turn_case : (users : ℕ → Option (List ℕ)) (i : ℕ) (s : MachineState Version) (o : Option (Stepped Version))
    → turn_by i (state_meant users s) (Some (option_map (stepped_meant users) o)) ≡ turn_meant users (turn_by i s (Some o))
turn_case users i s None = refl
turn_case users i s (Some x) = ap (λ (z : MachineState PlainCode). went x.end z x.line x.shown) (states_mean users i x s)

turn_of : (users : ℕ → Option (List ℕ)) (m : Module) (debug : PlainPdb) (methods : List (Option Version)) (i : ℕ) (s : MachineState Version) (o : Option (Task Version))
    → IsSound m → AreVersionsOf users m debug methods
    → turn_by i (state_meant users s) (option_map (λ (t : Task PlainCode). step_task (plain_world m debug) s.shared t) (option_map (task_meant users) o))
    ≡ turn_meant users (turn_by i s (option_map (λ (t : Task Version). step_task (version_world users m methods) s.shared t) o))
turn_of users m debug methods i s None sound are = refl
turn_of users m debug methods i s (Some t) sound are =
    ap (λ (x : Option (Stepped PlainCode)). turn_by i (state_meant users s) (Some x)) (steps_mean users m debug methods s.shared t sound are)
    ∙ turn_case users i s (step_task (version_world users m methods) s.shared t)

turns_mean : (users : ℕ → Option (List ℕ)) (m : Module) (debug : PlainPdb) (methods : List (Option Version)) (task : ℕ) (s : MachineState Version)
    → IsSound m → AreVersionsOf users m debug methods
    → machine_turn (plain_world m debug) task (state_meant users s) ≡ turn_meant users (machine_turn (version_world users m methods) task s)
unfolding machine_turn
turns_mean users m debug methods zero s sound are = refl
turns_mean users m debug methods (suc i) s sound are =
    ap (λ (o : Option (Task PlainCode)). turn_by i (state_meant users s) (option_map (λ (t : Task PlainCode). step_task (plain_world m debug) s.shared t) o)) (tasks_mean users s (suc i))
    ∙ turn_of users m debug methods i s (task_at s (suc i)) sound are

turn_is_meant : (users : ℕ → Option (List ℕ)) (result : Result StepEnd AllocError) (seen : Seen) (new old : MachineState Version) (said : MachineTurn Version)
    → IsTurn result seen new old said → IsTurn result seen (state_meant users new) (state_meant users old) (turn_meant users said)
turn_is_meant users (Ok end.Absent) seen new old said h = (ap (turn_meant users) h.0, ap (state_meant users) h.1)
turn_is_meant users (Ok end.Idle) seen new old said h = (ap (turn_meant users) h.0, ap (state_meant users) h.1)
turn_is_meant users (Ok end.Ran) seen new old said h = ap (turn_meant users) h
turn_is_meant users (Ok end.Ended) seen new old said h = ap (turn_meant users) h
turn_is_meant users (Ok (end.Trapped trap)) seen new old said h = ap (turn_meant users) h
turn_is_meant users (Err e) seen new old said h = ap (state_meant users) h

-- a step of versions is the plain machine's
pub plain_turn : (users : ℕ → Option (List ℕ)) (m : Module) (methods : List (Option Version)) (task : ℕ) (result : Result StepEnd AllocError) (seen : Seen) (new old : MachineState Version)
    → IsSound m → IsTurn result seen new old (machine_turn (version_world users m methods) task old) → IsPlainTurn users m methods task result seen new old
plain_turn users m methods task result seen new old sound h debug are =
    subst (λ (x : MachineTurn PlainCode). IsTurn result seen (state_meant users new) (state_meant users old) x) (sym (turns_mean users m debug methods task old sound are))
    (turn_is_meant users result seen new old (machine_turn (version_world users m methods) task old) h)

spawn_is_meant : (users : ℕ → Option (List ℕ)) (result : Result SpawnEnd AllocError) (new old : MachineState Version) (said : Spawning Version)
    → IsSpawn result new old said → IsSpawn result (state_meant users new) (state_meant users old) (spawning_meant users said)
spawn_is_meant users (Ok (spawned.Task n)) new old said h = ap (spawning_meant users) h
spawn_is_meant users (Ok spawned.Limit) new old said h = (ap (spawning_meant users) h.0, ap (state_meant users) h.1)
spawn_is_meant users (Ok spawned.Method) new old said h = (ap (spawning_meant users) h.0, ap (state_meant users) h.1)
spawn_is_meant users (Err e) new old said h = ap (state_meant users) h

-- and so is a spawn
pub plain_spawn : (users : ℕ → Option (List ℕ)) (m : Module) (methods : List (Option Version)) (method : Token) (result : Result SpawnEnd AllocError) (new old : MachineState Version)
    → IsSound m → IsSpawn result new old (spawn_in (version_world users m methods) method old) → IsPlainSpawn users m methods method result new old
plain_spawn users m methods method result new old sound h debug are =
    subst (λ (x : Spawning PlainCode). IsSpawn result (state_meant users new) (state_meant users old) x) (sym (spawns_mean users m debug methods method old sound are))
    (spawn_is_meant users result new old (spawn_in (version_world users m methods) method old) h)
