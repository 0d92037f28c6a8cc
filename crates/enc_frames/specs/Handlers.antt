-- Thrown objects and the handlers on their way (ECMA-335 I.12.4.2, III.3.31, III.3.46, III.4.31).
use Rattle.std.specs.Prelude.{ℕ, ◌-◌, Bool, List, [], ◌∷◌, length, filter, Option, Some, None, option_map, slice_get, Result, Ok, codes, ◌==◌, if◌then◌else◌}
use Rattle.enc_base.specs.Order.{or_else}
use Rattle.enc_base.specs.declared.token.Token.{Token}
use Rattle.enc_machine_types.specs.Members.{is_named_as}
use Rattle.enc_objects.specs.Objects.{Store, shape_in}
use Rattle.enc_objects.specs.declared.shape.Shape.{Shape}
use Rattle.enc_objects.specs.declared.shape.Shape.TheVariants as shape
use Rattle.enc_objects.specs.declared.trap.Trap.{Trap}
use Rattle.enc_objects.specs.declared.trap.Trap.TheVariants.{X2, X14}
use Rattle.enc_objects.specs.declared.value.Value.TheVariants.{Obj}
use Rattle.enc_opcodes.specs.Body.{Handler}
use Rattle.enc_plain.specs.Module.{Module}
use Rattle.enc_unwind.specs.Search.{is_in_range, catch_among, next_among}
use Rattle.enc_unwind.specs.declared.way_out.WayOut.{WayOut}
use Rattle.enc_unwind.specs.declared.way_out.WayOut.TheVariants as stop
use Rattle.enc_unwind.specs.declared.thrown.Thrown.{Thrown}
use Rattle.enc_unwind.specs.declared.thrown.Thrown.TheVariants as thrown
use Rattle.enc_frames.specs.Machine.{World, Frame, Thread}
use Rattle.enc_frames.specs.Memory.{not_null}
use Rattle.enc_frames.specs.Results.{◌>>=◌, or_trap}
use Rattle.enc_frames.specs.Values.{upper, reference}
use Rattle.enc_frames.specs.declared.handler.Flight.{Flight}
use Rattle.enc_frames.specs.declared.handler.Reason.{Reason}
use Rattle.enc_frames.specs.declared.handler.Reason.TheVariants as reason
use Rattle.enc_frames.specs.declared.handler.Running.{Running}

-- a range from which nothing is protected, for a clause that isn't there
abbrev pub no_range : ℕ × ℕ
no_range = (0, 0)

abbrev pub handler_range_of : Option Handler → ℕ × ℕ
handler_range_of (Some h) = h.handler
handler_range_of None = no_range

-- where the handler of a clause stands
unfoldable pub handler_range : List Handler → ℕ → ℕ × ℕ
handler_range clauses clause = handler_range_of (slice_get clauses clause)

-- the handlers that still run at an offset: those within which it lies
unfoldable pub pruned : List Handler → ℕ → List Running → List Running
pruned clauses offset running = filter (λ (r : Running). is_in_range (handler_range clauses r.clause) offset) running

-- a frame goes to an offset with nothing on its stack
unfoldable pub gone_to : {C : Type 0} → List Handler → ℕ → Frame C → Frame C
gone_to clauses offset f = record f { offset = offset; stack = []; running = pruned clauses offset f.running }

-- the handler of a clause begins
abbrev pub handler_begun : {C : Type 0} → Running → Frame C → Frame C
handler_begun r f = record f { running = r ∷ f.running }

unfoldable pub start : {C : Type 0} → List Handler → ℕ → ℕ → Reason → Frame C → Frame C
start clauses clause origin reason f =
    handler_begun (record { clause = clause; origin = origin; reason = reason })
    (gone_to clauses ((handler_range clauses clause).0) f)

-- a frame on its way to an offset: the next finally clause begins, and where there is none the frame is there
abbrev pub left_by : {C : Type 0} → List Handler → ℕ → ℕ → Option ℕ → Frame C → Frame C
left_by clauses origin goal (Some clause) f = start clauses clause origin (reason.Leave goal) f
left_by clauses origin goal None f = gone_to clauses goal f

-- leave (III.3.46)
unfoldable pub leave_to : {C : Type 0} → List Handler → ℕ → Frame C → Frame C
leave_to clauses goal f = left_by clauses f.offset goal (next_among clauses None f.offset (stop.Leave goal)) f

-- what a thrown object is
abbrev pub thrown_of : Option Shape → Thrown
thrown_of (Some (shape.Object class)) = thrown.Class class
thrown_of (Some (shape.Text n)) = thrown.Text
thrown_of _ = thrown.Array

-- the method is the constructor of a type, by its name
abbrev pub ends_search : {C : Type 0} → Module → Frame C → Bool
ends_search m f = is_named_as m (codes ".cctor") f.method

-- the clause of a frame that takes an object thrown at this offset, behind the frame's number from the outermost
abbrev pub caught_by : {C : Type 0} → World C → Thrown → ℕ → Frame C → ℕ → Option (ℕ × ℕ)
caught_by w t site f n = option_map (λ (clause : ℕ). (n, clause))
    (catch_among w.plain (w.body f.code).stack (w.body f.code).handlers site t)

-- the same of frames from the nearest outward, each by the instruction before its next; none behind a type's
-- constructor
unfoldable pub outer_taker : {C : Type 0} → World C → Thrown → List (Frame C) → Option (ℕ × ℕ)
outer_taker w t [] = None
outer_taker w t (f ∷ below) = or_else (caught_by w t (f.offset - 1) f (length below))
    (if ends_search w.plain f then None else outer_taker w t below)

-- and of the innermost frame and those below it
abbrev pub taker : {C : Type 0} → World C → Thrown → Frame C → List (Frame C) → Option (ℕ × ℕ)
taker w t f below = or_else (caught_by w t f.offset f (length below))
    (if ends_search w.plain f then None else outer_taker w t below)

abbrev pub flight_to : ℕ → ℕ → ℕ × ℕ → Flight
flight_to object origin target =
    record { object = object; frame = target.0; clause = target.1; origin = origin; tried = None }

-- throw: the object is on its way, and nothing else has changed (III.4.31)
unfoldable pub throw_object : {C : Type 0} → World C → Store → Thread C → Result (Thread C) Trap
throw_object w s t =
    upper t.top.stack >>= λ p. reference p >>= λ r. not_null r >>= λ id.
    or_trap X14 (taker w (thrown_of (shape_in s id)) t.top t.below) >>= λ target.
    Ok (record t { flight = Some (flight_to id t.top.offset target) })

-- the handler that ends where endfinally stands
abbrev pub ending_handler : List Handler → ℕ → List Running → Option (Running × List Running)
ending_handler clauses offset [] = None
ending_handler clauses offset (r ∷ rest) =
    if is_in_range (handler_range clauses r.clause) offset then Some (r, rest) else None

-- endfinally: the way out goes on (III.3.35)
abbrev pub resumed_by : {C : Type 0} → List Handler → Thread C → Running → Reason → Frame C → Thread C
resumed_by clauses t r (reason.Leave goal) f =
    record t { top = left_by clauses r.origin goal (next_among clauses (Some r.clause) r.origin (stop.Leave goal)) f }
resumed_by clauses t r (reason.Flight flight) f = record t { top = f; flight = Some flight }

unfoldable pub end_finally : {C : Type 0} → List Handler → Thread C → Result (Thread C) Trap
end_finally clauses t =
    or_trap X2 (ending_handler clauses t.top.offset t.top.running) >>= λ r.
    Ok (resumed_by clauses t r.0 r.0.reason (record t.top { running = r.1 }))

-- the frame that takes the object of a flight is the innermost
abbrev pub is_taking : {C : Type 0} → Thread C → Flight → Bool
is_taking t flight = flight.frame == length t.below

abbrev pub way_out : {C : Type 0} → Thread C → Flight → WayOut
way_out t flight = if is_taking t flight then stop.Before flight.clause else stop.All

-- what a flight's step makes of the frames, None where the last was left, and the method that was left
pub record Flown (C : Type 0) : Type 0 where
  pub thread : Option (Thread C)
  pub left : Option Token

-- the handler of a clause begins
abbrev pub handled : {C : Type 0} → List Handler → Thread C → Flight → ℕ → Flown C
handled clauses t flight clause = record {
  thread = Some (record t {
    top = start clauses clause flight.origin
        (reason.Flight (record flight { tried = Some clause })) t.top;
    flight = None;
  });
  left = None;
}

-- or the object is taken, which alone is on the stack then
abbrev pub taken_in : {C : Type 0} → List Handler → ℕ → ℕ → Frame C → Frame C
taken_in clauses clause object f =
    record (gone_to clauses ((handler_range clauses clause).0) f) { stack = Obj object ∷ [] }

abbrev pub object_taken : {C : Type 0} → List Handler → Thread C → Flight → Flown C
object_taken clauses t flight = record {
  thread = Some (record t { top = taken_in clauses flight.clause flight.object t.top; flight = None });
  left = None;
}

-- or the frame is left; a task whose last frame doesn't take the object has no such step
abbrev pub left_on : {C : Type 0} → Thread C → Flight → List (Frame C) → Flown C
left_on t flight [] = record { thread = None; left = Some t.top.method }
left_on t flight (f ∷ below) = record {
  thread = Some (record {
    top = f;
    below = below;
    flight = Some (record flight { origin = f.offset - 1; tried = None });
  });
  left = Some t.top.method;
}

abbrev pub flown : {C : Type 0} → List Handler → Thread C → Flight → Option ℕ → Flown C
flown clauses t flight (Some clause) = handled clauses t flight clause
flown clauses t flight None = if is_taking t flight then object_taken clauses t flight else left_on t flight t.below

-- a step of a task with a flight
unfoldable pub fly : {C : Type 0} → List Handler → Thread C → Flight → Flown C
fly clauses t flight = flown clauses t flight (next_among clauses flight.tried flight.origin (way_out t flight))
