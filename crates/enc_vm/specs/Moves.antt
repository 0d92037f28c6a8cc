-- The innermost frame of a task goes on in another code, as a debugger asks for behind an edit: the product's own.
use Rattle.std.specs.Prelude.{◌≡◌, ℕ, zero, suc, Bool, true, false, not, ◌&&◌, List, length, Option, Some, None, is_some, slice_get, slice_set, ◌==◌}
use Rattle.enc_objects.specs.declared.value.Value.{Value}
use Rattle.enc_opcodes.specs.Body.{body_of}
use Rattle.enc_opcodes.specs.Sound.{begins_at}
use Rattle.enc_versions.specs.Version.{Version}
use Rattle.enc_frames.specs.Machine.{PlainCode, Thread, Task, going, ended, trapped, MachineState, code_meant, state_meant}
use Rattle.enc_frames.specs.Moves.{moved_to}
use Rattle.enc_vm.specs.Placed.{IsSoundCode}

-- the innermost frame of a task that goes on, at an offset of another code, with more local variables
abbrev pub task_moved : {C : Type 0} → C → ℕ → List Value → Task C → Task C
task_moved code offset more (going t) =
    going (record { top = moved_to code offset more t.top; below = t.below; flight = t.flight })
task_moved code offset more ended = ended
task_moved code offset more (trapped x frames) = trapped x frames

-- that of the task with a number, from 1
abbrev pub moved_at : {C : Type 0} → ℕ → C → ℕ → List Value → MachineState C → Option (Task C) → MachineState C
moved_at i code offset more s None = s
moved_at i code offset more s (Some t) =
    record { shared = s.shared; tasks = slice_set s.tasks i (task_moved code offset more t) }

unfoldable pub moved_top : {C : Type 0} → ℕ → C → ℕ → List Value → MachineState C → MachineState C
moved_top zero code offset more s = s
moved_top (suc i) code offset more s = moved_at i code offset more s (slice_get s.tasks i)

-- a task goes on, no object is on its way, and its innermost frame has nothing on its stack and runs no handler
abbrev pub is_idle : {C : Type 0} → Option (Task C) → Bool
is_idle (Some (going t)) = not (is_some t.flight) && (length t.top.stack == 0 && length t.top.running == 0)
is_idle _ = false

-- whatever the user texts are, a version's body is sound by some numbers of rows, and an instruction of it begins at
-- an offset
abbrev pub IsBeginIn : Version → ℕ → Type 0
IsBeginIn v offset = (users : ℕ → Option (List ℕ))
    → IsSoundCode (body_of users v.code) × (begins_at ((body_of users v.code).code) offset ≡ true)

-- a move of frames that hold versions means that of what they mean
abbrev pub MovesMean : Type 0
MovesMean = (users : ℕ → Option (List ℕ)) (n : ℕ) (v : Version) (offset : ℕ) (more : List Value)
    (s : MachineState Version)
    → state_meant users (moved_top n v offset more s)
    ≡ moved_top n (code_meant users v) offset more (state_meant users s)
