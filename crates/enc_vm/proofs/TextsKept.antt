-- A step and a spawn leave the user texts there that the codes of frames name.
use Rattle.std.proofs.Common.{◌≡◌, ℕ, zero, suc, Bool, true, false, List, [], ◌∷◌, map, slice_get, slice_set, Option, Some, None, Result, Ok, Err, refl, sym, ap, ◌∙◌, subst, option_map}
use Rattle.std.specs.Prelude.{IsTrue, is_some, if◌then◌else◌}
use Rattle.std.specs.List.{list_all}
use Rattle.std.specs.declared.alloc.AllocError.{AllocError}
use Rattle.std.proofs.lemmas.Bool.{and_parts}
use Rattle.enc_base.specs.declared.token.Token.{Token}
use Rattle.enc_opcodes.proofs.Bodies.{body_told_alike}
use Rattle.enc_plain.proofs.MoreTexts.{texts_more}
use Rattle.enc_plain.specs.Module.{Module}
use Rattle.enc_machine_types.specs.Members.{run_body}
use Rattle.enc_opcodes.specs.Body.{KeepsTexts}
use Rattle.enc_versions.specs.Version.{Version, newest_of}
use Rattle.enc_versions.proofs.Known.{newest_texts}
use Rattle.enc_vm.proofs.Mapped.{frame_by, thread_by, task_by, state_by, stepped_with_codes, spawning_with_codes, Agree}
use Rattle.enc_vm.proofs.StepsMapped.{step_same, spawn_same}
use Rattle.enc_vm.specs.CallsSeen.{AreBodiesOf}
use Rattle.enc_frames.specs.Machine.{World, Frame, Thread, Task, going, ended, trapped, Shared, MachineState, code_meant, frame_meant, task_meant, version_world}
use Rattle.enc_vm.specs.Step.{Stepped, Spawning, begun, too_many, no_method, step_task, spawn_in}
use Rattle.enc_vm.specs.Texts.{version_texts, frame_texts, task_texts, machine_texts, MoreTextsMeanTheSame}
use Rattle.enc_vm.specs.Turns.{MachineTurn, absent, idle, went, turn_by, machine_turn, IsTurn, IsSpawn}
use Rattle.enc_vm.specs.declared.ends.StepEnd.{StepEnd}
use Rattle.enc_vm.specs.declared.ends.StepEnd.TheVariants as end
use Rattle.enc_vm.specs.declared.ends.SpawnEnd.{SpawnEnd}
use Rattle.enc_vm.specs.declared.ends.SpawnEnd.TheVariants as spawned
use Rattle.enc_vm.specs.declared.seen.Seen.{Seen}

-- a version whose texts are there
abbrev Known : (ℕ → Option (List ℕ)) → Type 0
Known users = (v : Version) × (version_texts users v ≡ true)

abbrev known : (users : ℕ → Option (List ℕ)) → Known users → Version
known users k = k.0

-- frames, tasks and machines of such ones
lift_frames : (users : ℕ → Option (List ℕ)) (fs : List (Frame Version)) → list_all (frame_texts users) fs ≡ true
    → (gs : List (Frame (Known users))) × (map (frame_by (known users)) gs ≡ fs)
lift_frames users [] there = ([], refl)
lift_frames users (f ∷ fs) there =
    let h = and_parts (frame_texts users f) (list_all (frame_texts users) fs) there in
    let rest = lift_frames users fs h.1 in
    let g : Frame (Known users) = record { method = f.method; code = (f.code, h.0); offset = f.offset; args = f.args; locals = f.locals; stack = f.stack; running = f.running } in
    (g ∷ rest.0, ap (λ (xs : List (Frame Version)). f ∷ xs) rest.1)

lift_thread : (users : ℕ → Option (List ℕ)) (t : Thread Version) → frame_texts users t.top ≡ true → list_all (frame_texts users) t.below ≡ true
    → (u : Thread (Known users)) × (thread_by (known users) u ≡ t)
lift_thread users t top below =
    let f = t.top in
    let rest = lift_frames users t.below below in
    let g : Frame (Known users) = record { method = f.method; code = (f.code, top); offset = f.offset; args = f.args; locals = f.locals; stack = f.stack; running = f.running } in
    (record { top = g; below = rest.0; flight = t.flight }, ap (λ (xs : List (Frame Version)). record { top = f; below = xs; flight = t.flight }) rest.1)

lift_task : (users : ℕ → Option (List ℕ)) (t : Task Version) → task_texts users t ≡ true → (u : Task (Known users)) × (task_by (known users) u ≡ t)
lift_task users (going t) there =
    let h = and_parts (frame_texts users t.top) (list_all (frame_texts users) t.below) there in
    let x = lift_thread users t h.0 h.1 in
    (going x.0, ap going x.1)
lift_task users ended there = (ended, refl)
lift_task users (trapped x frames) there = let fs = lift_frames users frames there in (trapped x fs.0, ap (trapped x) fs.1)

lift_tasks : (users : ℕ → Option (List ℕ)) (ts : List (Task Version)) → list_all (task_texts users) ts ≡ true → (us : List (Task (Known users))) × (map (task_by (known users)) us ≡ ts)
lift_tasks users [] there = ([], refl)
lift_tasks users (t ∷ ts) there =
    let h = and_parts (task_texts users t) (list_all (task_texts users) ts) there in
    let one = lift_task users t h.0 in
    let rest = lift_tasks users ts h.1 in
    (one.0 ∷ rest.0, ap (λ (x : Task Version). x ∷ map (task_by (known users)) rest.0) one.1 ∙ ap (λ (xs : List (Task Version)). t ∷ xs) rest.1)

-- and back
frames_there : (users : ℕ → Option (List ℕ)) (gs : List (Frame (Known users))) → list_all (frame_texts users) (map (frame_by (known users)) gs) ≡ true
frames_there users [] = refl
frames_there users (g ∷ gs) = rw (g.code.1, frames_there users gs) refl

task_there : (users : ℕ → Option (List ℕ)) (t : Task (Known users)) → task_texts users (task_by (known users) t) ≡ true
task_there users (going t) = rw (t.top.code.1, frames_there users t.below) refl
task_there users ended = refl
task_there users (trapped x frames) = frames_there users frames

tasks_there : (users : ℕ → Option (List ℕ)) (ts : List (Task (Known users))) → list_all (task_texts users) (map (task_by (known users)) ts) ≡ true
tasks_there users [] = refl
tasks_there users (t ∷ ts) = rw (task_there users t, tasks_there users ts) refl

-- what methods have now
lift_option : (users : ℕ → Option (List ℕ)) (o : Option Version) → ((v : Version) → o ≡ Some v → version_texts users v ≡ true) → Option (Known users)
lift_option users None there = None
lift_option users (Some v) there = Some (v, there v refl)

lifted_is : (users : ℕ → Option (List ℕ)) (o : Option Version) (there : (v : Version) → o ≡ Some v → version_texts users v ≡ true)
    → o ≡ option_map (known users) (lift_option users o there)
unfolding lift_option
lifted_is users None there = refl
lifted_is users (Some v) there = refl

now_there : (users : ℕ → Option (List ℕ)) (m : Module) (methods : List (Option Version)) (runs : Bool) (method : Token) → AreBodiesOf users m methods
    → (v : Version) → (if runs then newest_of methods method else None) ≡ Some v → version_texts users v ≡ true
now_there users m methods true method are v is = newest_texts users m are.0 methods method v are.1 is
now_there users m methods false method are v is = absurd cc

-- the world of such versions
known_world : (users : ℕ → Option (List ℕ)) (m : Module) (methods : List (Option Version)) → AreBodiesOf users m methods → World (Known users)
unfolding version_world
known_world users m methods are = record {
  plain = m;
  body = λ k. (version_world users m methods).body k.0;
  points = λ k. (version_world users m methods).points k.0;
  now = λ t. lift_option users (if is_some (run_body m t) then newest_of methods t else None) (now_there users m methods (is_some (run_body m t)) t are);
}

worlds_agree : (users : ℕ → Option (List ℕ)) (m : Module) (methods : List (Option Version)) (are : AreBodiesOf users m methods)
    → Agree (known users) (known_world users m methods are) (version_world users m methods)
unfolding version_world known_world
worlds_agree users m methods are = record {
  plain = refl;
  body = λ k. refl;
  points = λ k. refl;
  now = λ t. lifted_is users (if is_some (run_body m t) then newest_of methods t else None) (now_there users m methods (is_some (run_body m t)) t are);
}

-- what a task becomes
abbrev StepThere : (ℕ → Option (List ℕ)) → Option (Stepped Version) → Type 0
StepThere users o = (x : Stepped Version) → o ≡ Some x → task_texts users x.task ≡ true

step_by : (users : ℕ → Option (List ℕ)) (o : Option (Stepped (Known users))) → StepThere users (option_map (stepped_with_codes (known users)) o)
step_by users None x is = absurd cc
step_by users (Some y) x is =
    let same : x ≡ stepped_with_codes (known users) y = cc in
    rw same (task_there users y.task)

step_there : (users : ℕ → Option (List ℕ)) (m : Module) (methods : List (Option Version)) (s : Shared) (t : Task Version)
    → AreBodiesOf users m methods → task_texts users t ≡ true → StepThere users (step_task (version_world users m methods) s t)
step_there users m methods s t are there =
    let up = lift_task users t there in
    let same : step_task (version_world users m methods) s t ≡ option_map (stepped_with_codes (known users)) (step_task (known_world users m methods are) s up.0) =
    ap (λ (x : Task Version). step_task (version_world users m methods) s x) (sym up.1)
    ∙ step_same (known users) (known_world users m methods are) (version_world users m methods) s up.0 (worlds_agree users m methods are) in
    subst (StepThere users) (sym same) (step_by users (step_task (known_world users m methods are) s up.0))

-- tasks by their numbers
task_of : (users : ℕ → Option (List ℕ)) (ts : List (Task Version)) (i : ℕ) (t : Task Version) → list_all (task_texts users) ts ≡ true → slice_get ts i ≡ Some t → task_texts users t ≡ true
task_of users [] i t there is = absurd cc
task_of users (x ∷ xs) zero t there is = let same : x ≡ t = cc in rw (← same) (and_parts (task_texts users x) (list_all (task_texts users) xs) there).0
task_of users (x ∷ xs) (suc i) t there is = task_of users xs i t (and_parts (task_texts users x) (list_all (task_texts users) xs) there).1 is

set_there : (users : ℕ → Option (List ℕ)) (ts : List (Task Version)) (i : ℕ) (t : Task Version) → list_all (task_texts users) ts ≡ true → task_texts users t ≡ true
    → list_all (task_texts users) (slice_set ts i t) ≡ true
set_there users [] i t there new = refl
set_there users (x ∷ xs) zero t there new = rw (new, (and_parts (task_texts users x) (list_all (task_texts users) xs) there).1) refl
set_there users (x ∷ xs) (suc i) t there new =
    let h = and_parts (task_texts users x) (list_all (task_texts users) xs) there in rw (h.0, set_there users xs i t h.1 new) refl

-- the machine behind a turn
abbrev TurnThere : (ℕ → Option (List ℕ)) → MachineTurn Version → Type 0
TurnThere users absent = Unit {0}
TurnThere users idle = Unit {0}
TurnThere users (went how u line shown) = list_all (task_texts users) u.tasks ≡ true

turn_case : (users : ℕ → Option (List ℕ)) (i : ℕ) (s : MachineState Version) (o : Option (Stepped Version)) → list_all (task_texts users) s.tasks ≡ true → StepThere users o
    → TurnThere users (turn_by i s (Some o))
turn_case users i s None there step = _
turn_case users i s (Some x) there step = set_there users s.tasks i x.task there (step x refl)

turn_of : (users : ℕ → Option (List ℕ)) (m : Module) (methods : List (Option Version)) (i : ℕ) (s : MachineState Version) (o : Option (Task Version))
    → AreBodiesOf users m methods → list_all (task_texts users) s.tasks ≡ true → ((t : Task Version) → o ≡ Some t → task_texts users t ≡ true)
    → TurnThere users (turn_by i s (option_map (λ (t : Task Version). step_task (version_world users m methods) s.shared t) o))
turn_of users m methods i s None are there one = _
turn_of users m methods i s (Some t) are there one =
    turn_case users i s (step_task (version_world users m methods) s.shared t) there (step_there users m methods s.shared t are (one t refl))

turns_there : (users : ℕ → Option (List ℕ)) (m : Module) (methods : List (Option Version)) (task : ℕ) (s : MachineState Version)
    → AreBodiesOf users m methods → list_all (task_texts users) s.tasks ≡ true → TurnThere users (machine_turn (version_world users m methods) task s)
unfolding machine_turn
turns_there users m methods zero s are there = _
turns_there users m methods (suc i) s are there = turn_of users m methods i s (slice_get s.tasks i) are there (λ t is. task_of users s.tasks i t there is)

turn_is : (users : ℕ → Option (List ℕ)) (result : Result StepEnd AllocError) (seen : Seen) (new old : MachineState Version) (said : MachineTurn Version)
    → IsTurn result seen new old said → TurnThere users said → list_all (task_texts users) old.tasks ≡ true → list_all (task_texts users) new.tasks ≡ true
turn_is users (Ok end.Absent) seen new old said is turn there = subst (λ (s : MachineState Version). list_all (task_texts users) s.tasks ≡ true) (sym is.1) there
turn_is users (Ok end.Idle) seen new old said is turn there = subst (λ (s : MachineState Version). list_all (task_texts users) s.tasks ≡ true) (sym is.1) there
turn_is users (Ok end.Ran) seen new old said is turn there = subst (TurnThere users) is turn
turn_is users (Ok end.Ended) seen new old said is turn there = subst (TurnThere users) is turn
turn_is users (Ok (end.Trapped trap)) seen new old said is turn there = subst (TurnThere users) is turn
turn_is users (Err e) seen new old said is turn there = subst (λ (s : MachineState Version). list_all (task_texts users) s.tasks ≡ true) (sym is) there

-- a step leaves the texts there
pub turn_texts : (users : ℕ → Option (List ℕ)) (m : Module) (methods : List (Option Version)) (task : ℕ) (result : Result StepEnd AllocError) (seen : Seen) (new old : MachineState Version)
    → AreBodiesOf users m methods → IsTurn result seen new old (machine_turn (version_world users m methods) task old) → IsTrue (machine_texts users old) → IsTrue (machine_texts users new)
unfolding machine_texts
turn_texts users m methods task result seen new old are is there =
    turn_is users result seen new old (machine_turn (version_world users m methods) task old) is (turns_there users m methods task old are there) there

-- and so does a spawn
abbrev SpawnThere : (ℕ → Option (List ℕ)) → Spawning Version → Type 0
SpawnThere users (begun n u) = list_all (task_texts users) u.tasks ≡ true
SpawnThere users too_many = Unit {0}
SpawnThere users no_method = Unit {0}

spawn_by : (users : ℕ → Option (List ℕ)) (x : Spawning (Known users)) → SpawnThere users (spawning_with_codes (known users) x)
spawn_by users (begun n u) = tasks_there users u.tasks
spawn_by users too_many = _
spawn_by users no_method = _

spawn_there : (users : ℕ → Option (List ℕ)) (m : Module) (methods : List (Option Version)) (method : Token) (s : MachineState Version)
    → AreBodiesOf users m methods → list_all (task_texts users) s.tasks ≡ true → SpawnThere users (spawn_in (version_world users m methods) method s)
spawn_there users m methods method s are there =
    let up = lift_tasks users s.tasks there in
    let low : MachineState (Known users) = record { shared = s.shared; tasks = up.0 } in
    let is : state_by (known users) low ≡ s = ap (λ (ts : List (Task Version)). record { shared = s.shared; tasks = ts }) up.1 in
    let same : spawn_in (version_world users m methods) method s ≡ spawning_with_codes (known users) (spawn_in (known_world users m methods are) method low) =
    ap (λ (x : MachineState Version). spawn_in (version_world users m methods) method x) (sym is)
    ∙ spawn_same (known users) (known_world users m methods are) (version_world users m methods) method low (worlds_agree users m methods are) in
    subst (SpawnThere users) (sym same) (spawn_by users (spawn_in (known_world users m methods are) method low))

spawn_is : (users : ℕ → Option (List ℕ)) (result : Result SpawnEnd AllocError) (new old : MachineState Version) (said : Spawning Version)
    → IsSpawn result new old said → SpawnThere users said → list_all (task_texts users) old.tasks ≡ true → list_all (task_texts users) new.tasks ≡ true
spawn_is users (Ok (spawned.Task n)) new old said is spawn there = subst (SpawnThere users) is spawn
spawn_is users (Ok spawned.Limit) new old said is spawn there = subst (λ (s : MachineState Version). list_all (task_texts users) s.tasks ≡ true) (sym is.1) there
spawn_is users (Ok spawned.Method) new old said is spawn there = subst (λ (s : MachineState Version). list_all (task_texts users) s.tasks ≡ true) (sym is.1) there
spawn_is users (Err e) new old said is spawn there = subst (λ (s : MachineState Version). list_all (task_texts users) s.tasks ≡ true) (sym is) there

pub spawn_texts : (users : ℕ → Option (List ℕ)) (m : Module) (methods : List (Option Version)) (method : Token) (result : Result SpawnEnd AllocError) (new old : MachineState Version)
    → AreBodiesOf users m methods → IsSpawn result new old (spawn_in (version_world users m methods) method old) → IsTrue (machine_texts users old) → IsTrue (machine_texts users new)
unfolding machine_texts
spawn_texts users m methods method result new old are is there =
    spawn_is users result new old (spawn_in (version_world users m methods) method old) is (spawn_there users m methods method old are there) there

-- with more texts all means the same
frame_same : (users others : ℕ → Option (List ℕ)) (f : Frame Version) → KeepsTexts users others → frame_texts users f ≡ true → frame_meant others f ≡ frame_meant users f
frame_same users others f keeps there =
    ap (λ b. record { method = f.method; code = record { body = b; points = (code_meant users f.code).points }; offset = f.offset; args = f.args; locals = f.locals; stack = f.stack; running = f.running })
    (sym (body_told_alike users others f.code.code there keeps))

frames_same : (users others : ℕ → Option (List ℕ)) (fs : List (Frame Version)) → KeepsTexts users others → list_all (frame_texts users) fs ≡ true
    → (map (frame_meant others) fs ≡ map (frame_meant users) fs) × (list_all (frame_texts others) fs ≡ true)
frames_same users others [] keeps there = (refl, refl)
frames_same users others (f ∷ fs) keeps there =
    let h = and_parts (frame_texts users f) (list_all (frame_texts users) fs) there in
    let rest = frames_same users others fs keeps h.1 in
    (rw (frame_same users others f keeps h.0, rest.0) refl, rw (texts_more users others f.code.code.code h.0 keeps, rest.1) refl)

task_same : (users others : ℕ → Option (List ℕ)) (t : Task Version) → KeepsTexts users others → task_texts users t ≡ true
    → (task_meant others t ≡ task_meant users t) × (task_texts others t ≡ true)
task_same users others (going t) keeps there =
    let h = and_parts (frame_texts users t.top) (list_all (frame_texts users) t.below) there in
    let rest = frames_same users others t.below keeps h.1 in
    (rw (frame_same users others t.top keeps h.0, rest.0) refl, rw (texts_more users others t.top.code.code.code h.0 keeps, rest.1) refl)
task_same users others ended keeps there = (refl, refl)
task_same users others (trapped x frames) keeps there = let fs = frames_same users others frames keeps there in (ap (trapped x) fs.0, fs.1)

tasks_same : (users others : ℕ → Option (List ℕ)) (ts : List (Task Version)) → KeepsTexts users others → list_all (task_texts users) ts ≡ true
    → (map (task_meant others) ts ≡ map (task_meant users) ts) × (list_all (task_texts others) ts ≡ true)
tasks_same users others [] keeps there = (refl, refl)
tasks_same users others (t ∷ ts) keeps there =
    let h = and_parts (task_texts users t) (list_all (task_texts users) ts) there in
    let one = task_same users others t keeps h.0 in
    let rest = tasks_same users others ts keeps h.1 in
    (rw (one.0, rest.0) refl, rw (one.1, rest.1) refl)

pub more_texts : MoreTextsMeanTheSame
unfolding machine_texts
more_texts users others s keeps there =
    let h = tasks_same users others s.tasks keeps there in
    (ap (λ (ts : List (Task _)). record { shared = s.shared; tasks = ts }) h.0, h.1)
