-- A step of a task, and a new task (ECMA-335 I.12.3.2).
use Rattle.std.specs.Prelude.{ℕ, zero, suc, ◌+◌, Bool, true, false, ◌&&◌, List, [], ◌∷◌, ◌++◌, length, Option, Some, None, option_map, option_and_then, is_some, slice_get, slice_set, Result, Ok, Err, nat_le, ◌==◌, if◌then◌else◌}
use Rattle.enc_base.specs.declared.token.Token.{Token}
use Rattle.enc_machine_types.specs.Elements.{takes_nothing}
use Rattle.enc_machine_types.specs.Members.{is_static_method, type_constructor, run_body}
use Rattle.enc_objects.specs.Instructions.{binary_in, unary_in}
use Rattle.enc_objects.specs.declared.kind.Kind.{Kind}
use Rattle.enc_objects.specs.declared.trap.Trap.{Trap}
use Rattle.enc_objects.specs.declared.trap.Trap.TheVariants.{X1, X2}
use Rattle.enc_opcodes.specs.Instruction.{Argument, nothing, number, target, targets, token, text, raw, Instruction}
use Rattle.enc_opcodes.specs.declared.op.Op.{Op}
use Rattle.enc_plain.specs.Module.{Module, has_row, cells_of}
use Rattle.enc_plain.specs.Rows.{bytes_at}
use Rattle.enc_schema.specs.Columns as columns
use Rattle.enc_base.specs.Tables as tables
use Rattle.enc_frames.specs.Acts.{bare_act, numbered_act, branch_act, token_act}
use Rattle.enc_vm.specs.Calls.{touch, declaring, call, call_virtual, new_object, return_from, new_frame, with_touched, is_touched}
use Rattle.enc_frames.specs.Console.{call_outside, new_outside}
use Rattle.enc_frames.specs.Handlers.{throw_object, end_finally, Flown, fly}
use Rattle.enc_frames.specs.Machine.{World, Frame, Thread, Task, going, ended, trapped, Shared, MachineState}
use Rattle.enc_frames.specs.Memory.{load_text, named_field, load_static, store_static, Stored}
use Rattle.enc_frames.specs.Results.{◌>>=◌, or_trap, Shown, nothing_shown, Made, made}
use Rattle.enc_frames.specs.Straight.{Framed, switch_to, on_upper_two, on_top}
use Rattle.enc_frames.specs.declared.handler.Flight.{Flight}
use Rattle.enc_frames.specs.declared.act.Act.{Act}
use Rattle.enc_frames.specs.declared.act.Act.TheVariants as act
use Rattle.enc_frames.specs.FrameActs.{frame_act, object_act}
use Rattle.enc_frames.specs.Lines.{line_among}

-- where the instruction behind a place of the list begins: at the code's end, where there is none
abbrev pub begin_of : ℕ → List (ℕ × Instruction (List ℕ)) → ℕ
begin_of size [] = size
begin_of size (x ∷ rest) = x.0

-- the instruction at an offset, and where the one behind it begins
unfoldable pub instruction_among : ℕ → ℕ → List (ℕ × Instruction (List ℕ)) → Option (Instruction (List ℕ) × ℕ)
instruction_among size offset [] = None
instruction_among size offset (x ∷ rest) =
    if x.0 == offset then Some (x.1, begin_of size rest) else instruction_among size offset rest

abbrev pub instruction_of : {C : Type 0} → World C → Frame C → Option (Instruction (List ℕ) × ℕ)
instruction_of w f = instruction_among (w.body f.code).size f.offset (w.body f.code).code

-- what an instruction does to the frame alone
abbrev pub framed : {C : Type 0} → Shared → Thread C → Framed C → Result (Made C) Trap
framed s t r = r >>= λ f. Ok (made s t f)

-- and to the objects too
abbrev pub stored : {C : Type 0} → Shared → Thread C → Stored C → Result (Made C) Trap
stored s t r = r >>= λ p. Ok (made (record s { store = p.0 }) t p.1)

-- and to the frames alone
abbrev pub threaded : {C : Type 0} → Shared → Result (Thread C) Trap → Result (Made C) Trap
threaded s r = r >>= λ t. Ok (record { shared = s; thread = Some t; shown = nothing_shown })

-- a static field: its kind, then the touch of its type
abbrev pub on_static : {C : Type 0} → World C → Shared → Thread C → Token → (Kind → Shared → Result (Made C) Trap)
    → Result (Made C) Trap
on_static w s t field go = named_field w.plain field >>= λ k. touch w s t (declaring w.plain field) (go k)

-- a call goes to a method of the module or to a member outside
abbrev pub is_own_method : Token → Bool
is_own_method t = t.table == tables.method_def

-- what each instruction does
unfoldable pub act_on : {C : Type 0} → World C → ℕ → Act → Shared → Thread C → Result (Made C) Trap
act_on w next (act.Frame a) s t = framed s t (frame_act w next a t.top)
act_on w next (act.Object a) s t = stored s t (object_act w next a s.store t.top)
act_on w next act.Return s t = return_from w s t
act_on w next (act.Call method) s t =
    if is_own_method method then call w next method s t else call_outside w false next method s t
act_on w next (act.CallVirtual method) s t =
    if is_own_method method then call_virtual w next method s t else call_outside w true next method s t
act_on w next (act.NewObject method) s t =
    if is_own_method method then new_object w next method s t else new_outside w next method s t
act_on w next (act.LoadStatic field) s t =
    on_static w s t field (λ k u. stored u t (load_static k ((w.body t.top.code).stack) next field u.store t.top))
act_on w next (act.StoreStatic field) s t =
    on_static w s t field (λ k u. stored u t (store_static k next field u.store t.top))
act_on w next act.Throw s t = threaded s (throw_object w s.store t)
act_on w next act.EndFinally s t = threaded s (end_finally ((w.body t.top.code).handlers) t)

abbrev pub act_or_trap : {C : Type 0} → World C → ℕ → Option Act → Shared → Thread C → Result (Made C) Trap
act_or_trap w next None s t = Err X2
act_or_trap w next (Some a) s t = act_on w next a s t

-- an instruction that stands alone: one on two values, on one value, or another
abbrev pub bare_on : {C : Type 0} → World C → ℕ → Op → Shared → Thread C → Result (Made C) Trap
bare_on w next op s t =
    if is_some (binary_in op) then framed s t (on_upper_two op next t.top)
    else if is_some (unary_in op) then framed s t (on_top op next t.top)
    else act_or_trap w next (bare_act op.byte) s t

-- by its argument
unfoldable pub perform : {C : Type 0} → World C → ℕ → Op → Argument (List ℕ) → Shared → Thread C → Result (Made C) Trap
perform w next op nothing s t = bare_on w next op s t
perform w next op (number n) s t = act_or_trap w next (numbered_act op.byte n) s t
perform w next op (target goal) s t = act_or_trap w next (branch_act op.byte goal) s t
perform w next op (targets goals) s t = framed s t (switch_to goals next t.top)
perform w next op (token u) s t = act_or_trap w next (token_act op.byte u) s t
perform w next op (text units) s t = stored s t (load_text ((w.body t.top.code).stack) next units s.store t.top)
perform w next op (raw bytes) s t = Err X2

-- a step that runs the instruction at the frame's offset
unfoldable pub advance : {C : Type 0} → World C → Shared → Thread C → Result (Made C) Trap
advance w s t = or_trap X1 (instruction_of w t.top) >>= λ x. perform w x.1 x.0.op x.0.arg s t

abbrev pub line_of : {C : Type 0} → World C → Frame C → Option ℕ
line_of w f = line_among f.offset (w.points f.code)

-- how a step ended
pub data Ending : Type 0 where
  ran : Ending
  done : Ending
  stopped : Trap → Ending

-- what a task's step makes of what all share and of the task; a trap leaves the frames as they were
pub record Stepped (C : Type 0) : Type 0 where
  pub shared : Shared
  pub task : Task C
  pub end : Ending
  pub line : Option ℕ
  pub shown : Shown

-- the task after its frames went on, or were all left
abbrev pub task_after : {C : Type 0} → Option (Thread C) → Task C
task_after (Some t) = going t
task_after None = ended

abbrev pub end_after : {C : Type 0} → Option (Thread C) → Ending
end_after (Some t) = ran
end_after None = done

abbrev pub stepped : {C : Type 0} → Option ℕ → Made C → Stepped C
stepped line m = record {
  shared = m.shared;
  task = task_after m.thread;
  end = end_after m.thread;
  line = line;
  shown = m.shown;
}

abbrev pub trapped_in : {C : Type 0} → Option ℕ → Shared → Thread C → Trap → Stepped C
trapped_in line s t x = record {
  shared = s;
  task = trapped x (t.top ∷ t.below);
  end = stopped x;
  line = line;
  shown = nothing_shown;
}

abbrev pub stepped_by : {C : Type 0} → Option ℕ → Shared → Thread C → Result (Made C) Trap → Stepped C
stepped_by line s t (Ok m) = stepped line m
stepped_by line s t (Err x) = trapped_in line s t x

abbrev pub flight_made : {C : Type 0} → Shared → Flown C → Made C
flight_made s x = record { shared = s; thread = x.thread; shown = record nothing_shown { left = x.left } }

-- a step of a task that goes on: by its flight, or by the instruction
abbrev pub stepped_with : {C : Type 0} → World C → Shared → Thread C → Option Flight → Stepped C
stepped_with w s t (Some flight) = stepped None (flight_made s (fly ((w.body t.top.code).handlers) t flight))
stepped_with w s t None = stepped_by (line_of w t.top) s t (advance w s t)

-- a step of a task; none of one that has ended or trapped
unfoldable pub step_task : {C : Type 0} → World C → Shared → Task C → Option (Stepped C)
step_task w s (going t) = Some (stepped_with w s t t.flight)
step_task w s ended = None
step_task w s (trapped x frames) = None

-- the task of a number, from 1
abbrev pub task_at : {C : Type 0} → MachineState C → ℕ → Option (Task C)
task_at s zero = None
task_at s (suc i) = slice_get s.tasks i

-- the machine after a task's step
abbrev pub state_with : {C : Type 0} → ℕ → Stepped C → MachineState C → MachineState C
state_with i x s = record { shared = x.shared; tasks = slice_set s.tasks i x.task }

-- a type's constructor is one that the interpreter runs, where there is one
abbrev pub constructor_runs : Module → Option Token → Bool
constructor_runs m None = true
constructor_runs m (Some c) = is_some (run_body m c)

-- a method that a task can begin with: static, without parameters, of a kind that the interpreter runs, and so its
-- type's constructor
unfoldable pub may_spawn : Module → Token → Bool
may_spawn m method =
    method.table == tables.method_def && has_row m method && is_static_method m method
    && takes_nothing (bytes_at (cells_of m) method columns.method_def_signature)
    && is_some (run_body m method)
    && constructor_runs m (type_constructor m (declaring m method))

-- as many tasks as there can be
abbrev pub most_tasks : ℕ
most_tasks = 64

-- the frames of a new task: its method, and over it the constructor of its type, where the type wasn't touched before
abbrev pub first_thread : {C : Type 0} → Frame C → Option (Frame C) → Thread C
first_thread f None = record { top = f; below = []; flight = None }
first_thread f (Some g) = record { top = g; below = f ∷ []; flight = None }

abbrev pub frame_now : {C : Type 0} → World C → Token → Option (Frame C)
frame_now w method = option_map (λ code. new_frame w method code []) (w.now method)

abbrev pub constructor_frame : {C : Type 0} → World C → Shared → Token → Option (Frame C)
constructor_frame w s type = if is_touched type s then None
    else option_and_then (frame_now w) (type_constructor w.plain type)

-- the machine with a task more
abbrev pub with_task : {C : Type 0} → World C → Token → Frame C → MachineState C → MachineState C
with_task w method f s = record {
  shared = with_touched (declaring w.plain method) s.shared;
  tasks = s.tasks ++ going (first_thread f (constructor_frame w s.shared (declaring w.plain method))) ∷ [];
}

-- what comes of a spawn: a number, a limit, a method that can't be spawned
pub data Spawning (C : Type 0) : Type 0 where
  begun : ℕ → MachineState C → Spawning C
  too_many : Spawning C
  no_method : Spawning C

abbrev pub spawned_with : {C : Type 0} → World C → Token → Option (Frame C) → MachineState C → Spawning C
spawned_with w method None s = no_method
spawned_with w method (Some f) s = begun (length s.tasks + 1) (with_task w method f s)

unfoldable pub spawn_in : {C : Type 0} → World C → Token → MachineState C → Spawning C
spawn_in w method s =
    if nat_le most_tasks (length s.tasks) then too_many
    else if may_spawn w.plain method then spawned_with w method (frame_now w method) s
    else no_method
