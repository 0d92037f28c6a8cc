-- What C sees of a session, by numbers.
use Rattle.std.specs.Prelude.{ℕ, ◌+◌, ◌*◌, ◌-◌, ◌^◌, ℤ, min, List, map, nat_lt, Option, Some, None, zero, suc, if◌then◌else◌}
use Rattle.enc_base.specs.Token.{number_of}
use Rattle.enc_base.specs.declared.token.Token.{Token}
use Rattle.enc_objects.specs.declared.trap.Trap.{Trap}
use Rattle.enc_objects.specs.declared.trap.Trap.TheVariants as trap
use Rattle.enc_objects.specs.declared.value.Value.{Value}
use Rattle.enc_objects.specs.declared.value.Value.TheVariants.{I4, I8, Null, Obj}
use Rattle.enc_remap.specs.Remap.{Remapping, moved, refused}
use Rattle.enc_vm.specs.declared.ends.TaskState.{TaskState}
use Rattle.enc_vm.specs.declared.ends.TaskState.TheVariants as state
use Rattle.enc_watch.specs.declared.event.Event.{Event}
use Rattle.enc_watch.specs.declared.event.Event.TheVariants as event
use Rattle.enc_session.specs.declared.looks.FrameFacts.{FrameFacts}
use Rattle.enc_session.specs.declared.looks.FramePart.{FramePart}
use Rattle.enc_session.specs.declared.looks.FramePart.TheVariants as part
use Rattle.enc_c.specs.Refusals.{letter_of, rule_of}
use Rattle.enc_c.specs.declared.session_numbers.EventNumbers.{EventNumbers}
use Rattle.enc_c.specs.declared.session_numbers.FrameNumbers.{FrameNumbers}
use Rattle.enc_c.specs.declared.session_numbers.PairNumbers.{PairNumbers}
use Rattle.enc_c.specs.declared.session_numbers.RemappedNumbers.{RemappedNumbers}
use Rattle.enc_c.specs.declared.session_numbers.SteppedNumbers.{SteppedNumbers}
use Rattle.enc_c.specs.declared.session_numbers.ValueNumbers.{ValueNumbers}

-- a token by its number; a row past three bytes, which no table has, by 0
abbrev pub token_as_number : Token → ℕ
token_as_number t = if nat_lt t.row (2 ^ 24) then number_of t else 0

-- X1 to X14
abbrev pub trap_number : Trap → ℕ
trap_number trap.X1 = 1
trap_number trap.X2 = 2
trap_number trap.X3 = 3
trap_number trap.X4 = 4
trap_number trap.X5 = 5
trap_number trap.X6 = 6
trap_number trap.X7 = 7
trap_number trap.X8 = 8
trap_number trap.X9 = 9
trap_number trap.X10 = 10
trap_number trap.X11 = 11
trap_number trap.X12 = 12
trap_number trap.X13 = 13
trap_number trap.X14 = 14

-- how many steps ran, and how it stands with the task behind them
abbrev pub stepped_numbers : ℕ → Option TaskState → SteppedNumbers
stepped_numbers ran None = record { ran = ran; state = 0; trap = 0 }
stepped_numbers ran (Some state.Running) = record { ran = ran; state = 0; trap = 0 }
stepped_numbers ran (Some state.Ended) = record { ran = ran; state = 1; trap = 0 }
stepped_numbers ran (Some (state.Trapped x)) = record { ran = ran; state = 2; trap = trap_number x }

-- an event by its kind, its task, its method, and its line, generation, rule or trap; what it doesn't have is 0
abbrev pub event_numbers : Event → EventNumbers
event_numbers (event.Spawned task method) =
    record { kind = 1; task = task; method = token_as_number method; detail = 0 }
event_numbers (event.Entered task method) =
    record { kind = 2; task = task; method = token_as_number method; detail = 0 }
event_numbers (event.Left task method) = record { kind = 3; task = task; method = token_as_number method; detail = 0 }
event_numbers (event.Line task method line) =
    record { kind = 4; task = task; method = token_as_number method; detail = line }
event_numbers (event.Applied generation) = record { kind = 5; task = 0; method = 0; detail = generation }
event_numbers (event.Refused code) =
    record { kind = 6; task = 0; method = 0; detail = letter_of code * 0x100 + rule_of code }
event_numbers (event.Trapped task x) = record { kind = 7; task = task; method = 0; detail = trap_number x }
event_numbers (event.Ended task) = record { kind = 8; task = task; method = 0; detail = 0 }

-- a number of things, 2^32 - 1 where there are more
abbrev pub count_number : ℕ → ℕ
count_number n = min n (2 ^ 32 - 1)

-- a frame
abbrev pub frame_numbers : FrameFacts → FrameNumbers
frame_numbers f = record {
  method = token_as_number f.method;
  generation = f.generation;
  offset = f.offset;
  line = f.line;
  arguments = count_number f.arguments;
  locals = count_number f.locals;
  stack = count_number f.stack;
}

-- a value by its kind, the number of its object, and its number
abbrev pub value_numbers : Value → ValueNumbers
value_numbers (I4 n) = record { kind = 0; object = 0; number = n }
value_numbers (I8 n) = record { kind = 1; object = 0; number = n }
value_numbers Null = record { kind = 2; object = 0; number = ℤ.pos 0 }
value_numbers (Obj id) = record { kind = 3; object = id; number = ℤ.pos 0 }

-- which of a frame's values
abbrev pub part_by : ℕ → Option FramePart
part_by zero = Some part.Arguments
part_by (suc zero) = Some part.Locals
part_by (suc (suc zero)) = Some part.Stack
part_by _ = None

-- the pairs of a map
abbrev pub pairs_of : List PairNumbers → List (ℕ × ℕ)
pairs_of pairs = map (λ (p : PairNumbers). (p.from, p.to)) pairs

-- what comes of a remap: a rule 0 where the frame was moved, and else the first that is broken
abbrev pub remapped_numbers : {C : Type 0} → Remapping C → RemappedNumbers
remapped_numbers (moved method from to u) = record { rule = 0; method = token_as_number method; from = from; to = to }
remapped_numbers (refused number) = record { rule = number; method = 0; from = 0; to = 0 }
