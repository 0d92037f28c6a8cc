-- What a machine shows of itself: its tasks, their frames, the object that is on its way (ECMA-335 I.12.3).
use Rattle.std.specs.Prelude.{◌≡◌, ℕ, List, [], ◌∷◌, reverse, slice_get, Option, None, option_map, option_and_then, unwrap_or}
use Rattle.enc_versions.specs.Version.{Version}
use Rattle.enc_frames.specs.Callers.{first_if_any}
use Rattle.enc_frames.specs.Machine.{Frame, Task, going, ended, trapped, MachineState, frame_meant, state_meant}
use Rattle.enc_vm.specs.Step.{task_at}
use Rattle.enc_vm.specs.declared.ends.TaskState.{TaskState}
use Rattle.enc_vm.specs.declared.ends.TaskState.TheVariants as state
use Rattle.enc_frames.specs.declared.handler.Flight.{Flight}

-- the frames of a task, the innermost first
abbrev pub frames_of : {C : Type 0} → Task C → List (Frame C)
frames_of (going t) = t.top ∷ t.below
frames_of ended = []
frames_of (trapped x frames) = frames

-- the i-th from the outermost, which is 0
unfoldable pub frame_from : {C : Type 0} → Task C → ℕ → Option (Frame C)
frame_from t i = slice_get (reverse (frames_of t)) i

-- how it stands with a task
abbrev pub state_of : {C : Type 0} → Task C → TaskState
state_of (going t) = state.Running
state_of ended = state.Ended
state_of (trapped x frames) = state.Trapped x

-- the object that is on its way in a task
abbrev pub object_on_its_way : {C : Type 0} → Task C → Option ℕ
object_on_its_way (going t) = option_map (λ (f : Flight). f.object) t.flight
object_on_its_way ended = None
object_on_its_way (trapped x frames) = None

-- and the innermost
abbrev pub innermost_of : {C : Type 0} → Task C → Option (Frame C)
innermost_of t = first_if_any (frames_of t)

-- of the task with a number
abbrev pub frames_in : {C : Type 0} → MachineState C → ℕ → List (Frame C)
frames_in s task = unwrap_or (option_map frames_of (task_at s task)) []

abbrev pub innermost_in : {C : Type 0} → MachineState C → ℕ → Option (Frame C)
innermost_in s task = option_and_then innermost_of (task_at s task)

abbrev pub frame_in : {C : Type 0} → MachineState C → ℕ → ℕ → Option (Frame C)
frame_in s task i = option_and_then (λ (t : Task _). frame_from t i) (task_at s task)

abbrev pub state_in : {C : Type 0} → MachineState C → ℕ → Option TaskState
state_in s task = option_map state_of (task_at s task)

abbrev pub flight_in : {C : Type 0} → MachineState C → ℕ → Option ℕ
flight_in s task = option_and_then object_on_its_way (task_at s task)

-- what frames that hold versions mean looks as they do
abbrev pub StatesLookAlike : Type 0
StatesLookAlike = (users : ℕ → Option (List ℕ)) (s : MachineState Version) (task : ℕ)
    → state_in (state_meant users s) task ≡ state_in s task

abbrev pub FlightsLookAlike : Type 0
FlightsLookAlike = (users : ℕ → Option (List ℕ)) (s : MachineState Version) (task : ℕ)
    → flight_in (state_meant users s) task ≡ flight_in s task

abbrev pub FramesLookAlike : Type 0
FramesLookAlike =
    (users : ℕ → Option (List ℕ)) (s : MachineState Version) (task i : ℕ)
    → frame_in (state_meant users s) task i ≡ option_map (frame_meant users) (frame_in s task i)
