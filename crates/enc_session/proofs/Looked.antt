-- A machine whose frames hold versions looks like the plain machine that it means.
use Rattle.std.proofs.Common.{◌≡◌, ℕ, zero, suc, ◌+◌, List, [], ◌∷◌, ◌++◌, map, reverse, take, Option, Some, None, option_map, option_and_then, slice_get, refl, sym, ap, ◌∙◌, append-nil}
use Rattle.std.specs.Prelude.{codes, decimal, flat_map, unwrap_or}
use Rattle.std.proofs.lemmas.Grind.{flat_map-append}
use Rattle.std.proofs.lemmas.List.{reverse-append}
use Rattle.std.proofs.lemmas.Option.{slice_get-map}
use Rattle.enc_objects.specs.declared.trap.Trap.{Trap}
use Rattle.enc_versions.specs.Version.{Version}
use Rattle.enc_vm.specs.Looks.{frames_of, frame_from, frames_in, frame_in, innermost_of, innermost_in, object_on_its_way, flight_in, state_of, state_in}
use Rattle.enc_frames.specs.Machine.{PlainCode, Frame, Task, going, ended, trapped, MachineState, frame_meant, task_meant, state_meant}
use Rattle.enc_vm.specs.Step.{task_at}
use Rattle.enc_vm.specs.declared.ends.TaskState.TheVariants as state
use Rattle.enc_frames.specs.declared.handler.Flight.{Flight}
use Rattle.enc_session.proofs.Numbered.{each_more}
use Rattle.enc_session.specs.Lines.{task_line}
use Rattle.enc_session.specs.Session.{innermost_method}
use Rattle.enc_session.specs.States.{frame_line, going_text, standing_text, task_text, tasks_text, state_text}
use Rattle.enc_session.specs.StatesSeen.{frame_line_at, standing_at, task_text_at}

-- the line of a frame doesn't show its code
frame_same : (users : ℕ → Option (List ℕ)) (f : Frame Version) → frame_line (frame_meant users f) ≡ frame_line f
unfolding frame_line
frame_same users f = refl

-- texts of a list seen from its end
told_behind : {X : Type 0} (g : X → List ℕ) (x : X) (xs : List X) → flat_map g (reverse (x ∷ xs)) ≡ flat_map g (reverse xs) ++ g x
told_behind g x xs =
    ap (flat_map g) (reverse-append (x ∷ []) xs) ∙ flat_map-append g (reverse xs) (x ∷ []) ∙ ap (λ (t : List ℕ). flat_map g (reverse xs) ++ t) (append-nil (g x))

same_back : {X Y : Type 0} (f : X → Y) (g : Y → List ℕ) (h : X → List ℕ) → ((x : X) → g (f x) ≡ h x) → (xs : List X) → flat_map g (reverse (map f xs)) ≡ flat_map h (reverse xs)
same_back f g h same [] = refl
same_back f g h same (x ∷ xs) =
    told_behind g (f x) (map f xs) ∙ ap (λ (t : List ℕ). t ++ g (f x)) (same_back f g h same xs) ∙ ap (λ (t : List ℕ). flat_map h (reverse xs) ++ t) (same x) ∙ sym (told_behind h x xs)

frames_same : (users : ℕ → Option (List ℕ)) (fs : List (Frame Version)) → flat_map frame_line (reverse (map (frame_meant users) fs)) ≡ flat_map frame_line (reverse fs)
frames_same users fs = same_back (frame_meant users) frame_line frame_line (frame_same users) fs

task_same : (users : ℕ → Option (List ℕ)) (n : ℕ) (t : Task Version) → task_text n (task_meant users t) ≡ task_text n t
unfolding task_text
task_same users n (going t) = ap (λ (x : List ℕ). task_line n (going_text t.flight) ++ x) (frames_same users (t.top ∷ t.below))
task_same users n ended = refl
task_same users n (trapped x frames) = ap (λ (y : List ℕ). task_line n (standing_text (trapped x frames)) ++ y) (frames_same users frames)

tasks_same : (users : ℕ → Option (List ℕ)) (n : ℕ) (ts : List (Task Version)) → tasks_text n (map (task_meant users) ts) ≡ tasks_text n ts
tasks_same users n [] = refl
tasks_same users n (t ∷ ts) =
    ap (λ (x : List ℕ). x ++ tasks_text (n + 1) (map (task_meant users) ts)) (task_same users n t) ∙ ap (λ (x : List ℕ). task_text n t ++ x) (tasks_same users (n + 1) ts)

-- the state of both is shown alike
pub state_same : (users : ℕ → Option (List ℕ)) (s : MachineState Version) → state_text (state_meant users s) ≡ state_text s
unfolding state_text
state_same users s = rw (tasks_same users 1 s.tasks) refl

-- the task of a number
pub task_at_meant : (users : ℕ → Option (List ℕ)) (s : MachineState Version) (task : ℕ) → task_at (state_meant users s) task ≡ option_map (task_meant users) (task_at s task)
task_at_meant users s zero = refl
task_at_meant users s (suc i) = slice_get-map (task_meant users) s.tasks i

-- the innermost frame of a task means that of the plain machine
innermost_by : (users : ℕ → Option (List ℕ)) (o : Option (Task Version))
    → option_and_then innermost_of (option_map (task_meant users) o) ≡ option_map (frame_meant users) (option_and_then innermost_of o)
innermost_by users None = refl
innermost_by users (Some (going t)) = refl
innermost_by users (Some ended) = refl
innermost_by users (Some (trapped y [])) = refl
innermost_by users (Some (trapped y (f ∷ fs))) = refl

pub innermost_meant : (users : ℕ → Option (List ℕ)) (s : MachineState Version) (task : ℕ)
    → innermost_in (state_meant users s) task ≡ option_map (frame_meant users) (innermost_in s task)
innermost_meant users s task = ap (option_and_then innermost_of) (task_at_meant users s task) ∙ innermost_by users (task_at s task)

-- its method and its offset are the same
method_by : (users : ℕ → Option (List ℕ)) (o : Option (Frame Version))
    → option_map (λ (f : Frame PlainCode). f.method) (option_map (frame_meant users) o) ≡ option_map (λ (f : Frame Version). f.method) o
method_by users None = refl
method_by users (Some f) = refl

offset_by : (users : ℕ → Option (List ℕ)) (o : Option (Frame Version))
    → option_map (λ (f : Frame PlainCode). f.offset) (option_map (frame_meant users) o) ≡ option_map (λ (f : Frame Version). f.offset) o
offset_by users None = refl
offset_by users (Some f) = refl

pub method_meant : (users : ℕ → Option (List ℕ)) (s : MachineState Version) (task : ℕ) → innermost_method (state_meant users s) task ≡ innermost_method s task
method_meant users s task =
    ap (option_map (λ (f : Frame PlainCode). f.method)) (innermost_meant users s task) ∙ method_by users (innermost_in s task)

pub offset_meant : (users : ℕ → Option (List ℕ)) (s : MachineState Version) (task : ℕ)
    → option_map (λ (f : Frame PlainCode). f.offset) (innermost_in (state_meant users s) task) ≡ option_map (λ (f : Frame Version). f.offset) (innermost_in s task)
offset_meant users s task =
    ap (option_map (λ (f : Frame PlainCode). f.offset)) (innermost_meant users s task) ∙ offset_by users (innermost_in s task)

-- and so is the method of the i-th from the outermost
pub method_at_meant : (users : ℕ → Option (List ℕ)) (s : MachineState Version) (task i : ℕ)
    → frame_in (state_meant users s) task i ≡ option_map (frame_meant users) (frame_in s task i)
    → option_map (λ (f : Frame PlainCode). f.method) (frame_in (state_meant users s) task i) ≡ option_map (λ (f : Frame Version). f.method) (frame_in s task i)
method_at_meant users s task i same = ap (option_map (λ (f : Frame PlainCode). f.method)) same ∙ method_by users (frame_in s task i)

-- the frames of a task by their numbers
frame_by : {C : Type 0} (o : Option (Task C)) (i : ℕ)
    → option_and_then (λ (t : Task _). frame_from t i) o ≡ slice_get (reverse (unwrap_or (option_map frames_of o) [])) i
unfolding frame_from
frame_by None i = refl
frame_by (Some t) i = refl

pub frame_is : {C : Type 0} (s : MachineState C) (task i : ℕ) → frame_in s task i ≡ slice_get (reverse (frames_in s task)) i
frame_is s task i = frame_by (task_at s task) i

-- one more of them
pub frames_more : (s : MachineState Version) (task i : ℕ) (old now new : List ℕ)
    → now ≡ old ++ flat_map frame_line (take i (reverse (frames_in s task))) → new ≡ now ++ frame_line_at s task i
    → new ≡ old ++ flat_map frame_line (take (i + 1) (reverse (frames_in s task)))
unfolding frame_line_at
frames_more s task i old now new before more =
    each_more frame_line (reverse (frames_in s task)) i old now new before
    (more ∙ ap (λ (o : Option (Frame Version)). now ++ unwrap_or (option_map frame_line o) []) (frame_is s task i))

-- a task of a number, as it is shown
text_by : (task : ℕ) (o : Option (Task Version))
    → unwrap_or (option_map (λ (t : Task Version). task_line task (standing_text t)) o) [] ++ flat_map frame_line (reverse (unwrap_or (option_map frames_of o) []))
    ≡ unwrap_or (option_map (task_text task) o) []
unfolding task_text
text_by task None = refl
text_by task (Some t) = refl

pub task_shown : (s : MachineState Version) (task : ℕ) → standing_at s task ++ flat_map frame_line (reverse (frames_in s task)) ≡ task_text_at s task
unfolding standing_at task_text_at
task_shown s task = text_by task (task_at s task)

-- how it stands with a task of a number, by what the machine shows of it
none_by : {C : Type 0} (task : ℕ) (o : Option (Task C)) → option_map state_of o ≡ None → unwrap_or (option_map (λ (t : Task _). task_line task (standing_text t)) o) [] ≡ []
none_by task None h = refl
none_by task (Some t) h = cc

pub none_standing : {C : Type 0} (s : MachineState C) (task : ℕ) → state_in s task ≡ None → standing_at s task ≡ []
unfolding standing_at
none_standing s task h = none_by task (task_at s task) h

ended_by : {C : Type 0} (task : ℕ) (o : Option (Task C)) → option_map state_of o ≡ Some state.Ended
    → unwrap_or (option_map (λ (t : Task _). task_line task (standing_text t)) o) [] ≡ task_line task (codes "ended")
ended_by task None h = cc
ended_by task (Some (going t)) h = cc
ended_by task (Some ended) h = refl
ended_by task (Some (trapped x frames)) h = cc

pub ended_standing : {C : Type 0} (s : MachineState C) (task : ℕ) → state_in s task ≡ Some state.Ended → standing_at s task ≡ task_line task (codes "ended")
unfolding standing_at
ended_standing s task h = ended_by task (task_at s task) h

trapped_by : {C : Type 0} (task : ℕ) (trap : Trap) (o : Option (Task C)) → option_map state_of o ≡ Some (state.Trapped trap)
    → unwrap_or (option_map (λ (t : Task _). task_line task (standing_text t)) o) [] ≡ task_line task (codes "trapped")
trapped_by task trap None h = cc
trapped_by task trap (Some (going t)) h = cc
trapped_by task trap (Some ended) h = cc
trapped_by task trap (Some (trapped x frames)) h = refl

pub trapped_standing : {C : Type 0} (s : MachineState C) (task : ℕ) (trap : Trap) → state_in s task ≡ Some (state.Trapped trap) → standing_at s task ≡ task_line task (codes "trapped")
unfolding standing_at
trapped_standing s task trap h = trapped_by task trap (task_at s task) h

going_by : (task : ℕ) (o : Option Flight) → option_map (λ (f : Flight). f.object) o ≡ None → task_line task (going_text o) ≡ task_line task (codes "running")
going_by task None h = refl
going_by task (Some f) h = cc

running_by : {C : Type 0} (task : ℕ) (o : Option (Task C)) → option_map state_of o ≡ Some state.Running → option_and_then object_on_its_way o ≡ None
    → unwrap_or (option_map (λ (t : Task _). task_line task (standing_text t)) o) [] ≡ task_line task (codes "running")
running_by task None h g = cc
running_by task (Some (going t)) h g = going_by task t.flight g
running_by task (Some ended) h g = cc
running_by task (Some (trapped x frames)) h g = cc

pub running_standing : {C : Type 0} (s : MachineState C) (task : ℕ) → state_in s task ≡ Some state.Running → flight_in s task ≡ None → standing_at s task ≡ task_line task (codes "running")
unfolding standing_at
running_standing s task h g = running_by task (task_at s task) h g

flying_by : (task id : ℕ) (o : Option Flight) → option_map (λ (f : Flight). f.object) o ≡ Some id → task_line task (going_text o) ≡ task_line task (codes "unwinding #" ++ decimal id)
flying_by task id None h = cc
flying_by task id (Some f) h = let e : f.object ≡ id = cc in rw e refl

unwinding_by : {C : Type 0} (task id : ℕ) (o : Option (Task C)) → option_map state_of o ≡ Some state.Running → option_and_then object_on_its_way o ≡ Some id
    → unwrap_or (option_map (λ (t : Task _). task_line task (standing_text t)) o) [] ≡ task_line task (codes "unwinding #" ++ decimal id)
unwinding_by task id None h g = cc
unwinding_by task id (Some (going t)) h g = flying_by task id t.flight g
unwinding_by task id (Some ended) h g = cc
unwinding_by task id (Some (trapped x frames)) h g = cc

pub unwinding_standing : {C : Type 0} (s : MachineState C) (task id : ℕ) → state_in s task ≡ Some state.Running → flight_in s task ≡ Some id
    → standing_at s task ≡ task_line task (codes "unwinding #" ++ decimal id)
unfolding standing_at
unwinding_standing s task id h g = unwinding_by task id (task_at s task) h g
