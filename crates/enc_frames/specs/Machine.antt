-- The machine: what all tasks share, and the frames of each task (ECMA-335 I.12.3).
use Rattle.std.specs.Prelude.{ℕ, List, [], map, Option, None, option_map, is_some, if◌then◌else◌}
use Rattle.enc_base.specs.declared.token.Token.{Token}
use Rattle.enc_objects.specs.Objects.{Store, no_objects}
use Rattle.enc_objects.specs.declared.trap.Trap.{Trap}
use Rattle.enc_objects.specs.declared.value.Value.{Value}
use Rattle.enc_opcodes.specs.Body.{Body, body_of}
use Rattle.enc_plain.specs.Debug.{PlainPdb}
use Rattle.enc_plain.specs.Module.{Module}
use Rattle.enc_versions.specs.Version.{Version, newest_of}
use Rattle.enc_versions.specs.StandFor.{lines_read, lines_known}
use Rattle.enc_machine_types.specs.Members.{run_body}
use Rattle.enc_frames.specs.declared.handler.Running.{Running}
use Rattle.enc_frames.specs.declared.handler.Flight.{Flight}

-- a body and its points: the offset of each, and its lines and columns, None where it is hidden
pub record PlainCode : Type 0 where
  pub body : Body
  pub points : List (ℕ × Option (ℕ × ℕ × ℕ × ℕ))

-- what a step sees: the module, what the codes of frames say, their body and their points, and the code that a
-- method has now, where the interpreter runs it
pub record World (C : Type 0) : Type 0 where
  pub plain : Module
  pub body : C → Body
  pub points : C → List (ℕ × Option (ℕ × ℕ × ℕ × ℕ))
  pub now : Token → Option C

-- the code of a method by a module and a PDB, where the interpreter runs it
abbrev pub code_now : Module → PlainPdb → Token → Option PlainCode
code_now m debug method = option_map (λ (b : Body). record { body = b; points = (lines_known (debug method)).points })
    (run_body m method)

-- what the plain machine sees: one module and one PDB, and codes that are the bodies themselves
unfoldable pub plain_world : Module → PlainPdb → World PlainCode
plain_world m debug = record { plain = m; body = λ c. c.body; points = λ c. c.points; now = code_now m debug }

-- a call that is under way: its method, the code that it keeps, with which it began or to which it was moved last,
-- the offset of the next instruction, its
-- arguments, local variables and stack, the top first, and the handlers that it runs, the last begun first
pub record Frame (C : Type 0) : Type 0 where
  pub method : Token
  pub code : C
  pub offset : ℕ
  pub args : List Value
  pub locals : List Value
  pub stack : List Value
  pub running : List Running

-- the frames of a task that goes on: the innermost, those below it from the nearest, and the object that is on its
-- way to a handler, if any
pub record Thread (C : Type 0) : Type 0 where
  pub top : Frame C
  pub below : List (Frame C)
  pub flight : Option Flight

-- a task: it goes on, has ended, or has trapped, with its frames from the innermost
pub data Task (C : Type 0) : Type 0 where
  going : Thread C → Task C
  ended : Task C
  trapped : Trap → List (Frame C) → Task C

-- what all tasks share: the objects and statics, and the types that were touched, in the order of tokens
pub record Shared : Type 0 where
  pub store : Store
  pub touched : List Token

-- the machine, with its tasks from number 1
pub record MachineState (C : Type 0) : Type 0 where
  pub shared : Shared
  pub tasks : List (Task C)

-- the machine before anything ran
abbrev pub at_rest : {C : Type 0} → MachineState C
at_rest = record { shared = record { store = no_objects; touched = [] }; tasks = [] }

-- what the program's frames see: versions of methods, whose bodies have these user texts
unfoldable pub version_world : (ℕ → Option (List ℕ)) → Module → List (Option Version) → World Version
version_world users m methods = record {
  plain = m;
  body = λ v. body_of users v.code;
  points = λ v. (lines_read v.points).points;
  now = λ method. if is_some (run_body m method) then newest_of methods method else None;
}

-- what a version of a method means, with user texts
abbrev pub code_meant : (ℕ → Option (List ℕ)) → Version → PlainCode
code_meant users v = record { body = body_of users v.code; points = (lines_read v.points).points }

-- and so frames, threads, tasks and machines that hold versions
abbrev pub frame_meant : (ℕ → Option (List ℕ)) → Frame Version → Frame PlainCode
frame_meant users f =
    record {
      method = f.method;
      code = code_meant users f.code;
      offset = f.offset;
      args = f.args;
      locals = f.locals;
      stack = f.stack;
      running = f.running;
    }

abbrev pub thread_meant : (ℕ → Option (List ℕ)) → Thread Version → Thread PlainCode
thread_meant users t = record {
  top = frame_meant users t.top;
  below = map (frame_meant users) t.below;
  flight = t.flight;
}

abbrev pub task_meant : (ℕ → Option (List ℕ)) → Task Version → Task PlainCode
task_meant users (going t) = going (thread_meant users t)
task_meant users ended = ended
task_meant users (trapped x frames) = trapped x (map (frame_meant users) frames)

abbrev pub state_meant : (ℕ → Option (List ℕ)) → MachineState Version → MachineState PlainCode
state_meant users s = record { shared = s.shared; tasks = map (task_meant users) s.tasks }
