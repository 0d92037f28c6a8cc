-- For the contracts of private functions: room for what a step may write, by its instruction and the value on the
-- top of the innermost frame's stack.
use Rattle.std.specs.Prelude.{◌≡◌, ℕ, ◌+◌, ◌≤◌, Bool, true, false, not, List, length, Option, Some, None, Result, Ok, Err}
use Rattle.enc_frames.specs.Acts.{bare_act, numbered_act, branch_act, token_act}
use Rattle.enc_frames.specs.Console.{digits_of_number, or_empty}
use Rattle.enc_frames.specs.Machine.{World, Thread, Task, going, ended, trapped}
use Rattle.enc_frames.specs.Values.{upper}
use Rattle.enc_frames.specs.declared.act.Act.{Act}
use Rattle.enc_frames.specs.declared.act.Act.TheVariants as act
use Rattle.enc_frames.specs.declared.handler.Flight.{Flight}
use Rattle.enc_objects.specs.Objects.{Store, units_held}
use Rattle.enc_objects.specs.declared.trap.Trap.{Trap}
use Rattle.enc_objects.specs.declared.value.Value.{Value}
use Rattle.enc_objects.specs.declared.value.Value.TheVariants.{I4, I8, Null, Obj}
use Rattle.enc_opcodes.specs.Instruction.{Argument, nothing, number, target, targets, token, text, raw, Instruction}
use Rattle.enc_opcodes.specs.declared.op.Op.{Op}
use Rattle.enc_vm.specs.Step.{instruction_of, is_own_method}

-- what an instruction is for, where it isn't on values alone
abbrev pub act_of : {T : Type 0} → Op → Argument T → Option Act
act_of op nothing = bare_act op.byte
act_of op (number n) = numbered_act op.byte n
act_of op (target goal) = branch_act op.byte goal
act_of op (targets goals) = None
act_of op (token t) = token_act op.byte t
act_of op (text units) = None
act_of op (raw bytes) = None

-- what may write: a call of a member outside
abbrev pub may_write : Option Act → Bool
may_write (Some (act.Call method)) = not (is_own_method method)
may_write (Some (act.CallVirtual method)) = not (is_own_method method)
may_write _ = false

-- room for a line end, and for the text or the digits of a value before it
abbrev pub IsRoomForValue : Store → ℕ → Value → Type 0
IsRoomForValue s room (I4 n) = length (digits_of_number n) + 1 ≤ room
IsRoomForValue s room (I8 n) = 1 ≤ room
IsRoomForValue s room Null = 1 ≤ room
IsRoomForValue s room (Obj id) = length (or_empty (units_held s id)) + 1 ≤ room

-- of the value that is on a stack, where there is one
abbrev pub IsRoomForTop : Store → ℕ → Result Value Trap → Type 0
IsRoomForTop s room (Ok v) = IsRoomForValue s room v
IsRoomForTop s room (Err trap) = 1 ≤ room

-- of the instruction that stands at an offset, where one does
abbrev pub IsRoomAt : {T : Type 0} → Store → ℕ → List Value → Option (Instruction T × ℕ) → Type 0
IsRoomAt s room stack None = Unit {0}
IsRoomAt s room stack (Some x) = may_write (act_of x.0.op x.0.arg) ≡ true → IsRoomForTop s room (upper stack)

-- of a task that goes on: none is needed on the way of a thrown object
abbrev pub IsRoomForThread : {C : Type 0} → World C → Store → ℕ → Thread C → Option Flight → Type 0
IsRoomForThread w s room t (Some flight) = Unit {0}
IsRoomForThread w s room t None = IsRoomAt s room t.top.stack (instruction_of w t.top)

-- and of any
abbrev pub IsRoomForTask : {C : Type 0} → World C → Store → ℕ → Task C → Type 0
IsRoomForTask w s room (going t) = IsRoomForThread w s room t t.flight
IsRoomForTask w s room ended = Unit {0}
IsRoomForTask w s room (trapped x frames) = Unit {0}
