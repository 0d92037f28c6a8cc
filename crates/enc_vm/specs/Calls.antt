-- Calls, returns, new objects and first touches of types (ECMA-335 III.3.19, III.3.57, III.4.2, III.4.21, II.10.5.3).
use Rattle.std.specs.Prelude.{ℕ, ◌+◌, Bool, true, false, not, ◌&&◌, ◌||◌, List, [], ◌∷◌, length, map, drop, Option, Some, None, unwrap_or, option_and_then, Result, Ok, Err, nat_lt, if◌then◌else◌}
use Rattle.std.specs.List.{list_any}
use Rattle.enc_base.specs.Token.{is_token, nil, number_of}
use Rattle.enc_base.specs.declared.token.Token.{Token}
use Rattle.enc_plain.specs.ValueType.{is_value_type}
use Rattle.enc_dispatch.specs.Target.{target_of, is_interface}
use Rattle.enc_dispatch.specs.Walks.{is_virtual}
use Rattle.enc_machine_types.specs.Elements.{CallShape}
use Rattle.enc_machine_types.specs.Members.{call_shape, local_kinds, is_static_method, is_constructor, type_constructor}
use Rattle.enc_objects.specs.Objects.{Store, shape_in}
use Rattle.enc_objects.specs.Values.{default_of}
use Rattle.enc_objects.specs.declared.object.Content.TheVariants.{Instance}
use Rattle.enc_objects.specs.declared.shape.Shape.{Shape as ObjectShape}
use Rattle.enc_objects.specs.declared.shape.Shape.TheVariants as shape
use Rattle.enc_objects.specs.declared.trap.Trap.{Trap}
use Rattle.enc_objects.specs.declared.trap.Trap.TheVariants.{X2, X3, X9, X10, X11}
use Rattle.enc_objects.specs.declared.value.Value.{Value}
use Rattle.enc_objects.specs.declared.value.Value.TheVariants.{Obj}
use Rattle.enc_plain.specs.Module.{Module, cells_of, owner_of}
use Rattle.enc_frames.specs.Machine.{World, Frame, Thread, Shared}
use Rattle.enc_frames.specs.Memory.{new_in, not_null}
use Rattle.enc_frames.specs.Results.{◌>>=◌, or_trap, ask, nothing_shown, Made}
use Rattle.enc_frames.specs.Straight.{moved_on, argument_kinds, named_method}
use Rattle.enc_frames.specs.Values.{fit_all, pushed, reference, arguments, value_given}

-- as many frames as a task can have
abbrev pub most_frames : ℕ
most_frames = 1024

-- a frame at its method's first instruction: its local variables have their kinds' defaults
unfoldable pub new_frame : {C : Type 0} → World C → Token → C → List Value → Frame C
new_frame w method code args = record {
  method = method;
  code = code;
  offset = 0;
  args = args;
  locals = map default_of (unwrap_or (local_kinds w.plain (w.body code).locals) []);
  stack = [];
  running = [];
}

-- a method is entered over a caller's frame
unfoldable pub enter : {C : Type 0} → World C → Thread C → Frame C → Token → List Value → Result (Thread C) Trap
enter w t caller method args =
    or_trap X10 (w.now method) >>= λ code. ask X11 (nat_lt (length t.below + 1) most_frames) >>= λ _.
    Ok (record { top = new_frame w method code args; below = caller ∷ t.below; flight = None })

abbrev pub entering : {C : Type 0} → Shared → Token → Thread C → Made C
entering s method t = record { shared = s; thread = Some t; shown = record nothing_shown { entered = Some method } }

-- the types that were touched, with one more in the order of tokens
unfoldable pub with_type : Token → List Token → List Token
with_type type [] = type ∷ []
with_type type (t ∷ rest) = if nat_lt (number_of type) (number_of t) then type ∷ t ∷ rest else if is_token type t
    then t ∷ rest else t ∷ with_type type rest

abbrev pub with_touched : Token → Shared → Shared
with_touched type s = record s { touched = with_type type s.touched }

abbrev pub is_touched : Token → Shared → Bool
is_touched type s = list_any (λ (t : Token). is_token t type) s.touched

-- a type is touched before an instruction goes on: the first time it is marked, and its constructor is entered,
-- where it has one, which is the whole step then
abbrev pub touch_first : {C : Type 0} → World C → Shared → Thread C → Token → (Shared → Result (Made C) Trap)
    → Option Token → Result (Made C) Trap
touch_first w s t type go None = go (with_touched type s)
touch_first w s t type go (Some constructor) =
    enter w t t.top constructor [] >>= λ u. Ok (entering (with_touched type s) constructor u)

unfoldable pub touch : {C : Type 0} → World C → Shared → Thread C → Token → (Shared → Result (Made C) Trap)
    → Result (Made C) Trap
touch w s t type go = if is_touched type s then go s else touch_first w s t type go (type_constructor w.plain type)

abbrev pub touch_if : {C : Type 0} → Bool → World C → Shared → Thread C → Token → (Shared → Result (Made C) Trap)
    → Result (Made C) Trap
touch_if needed w s t type go = if needed then touch w s t type go else go s

-- the type that a member is of
abbrev pub declaring : Module → Token → Token
declaring m member = unwrap_or (owner_of m member) nil

-- the method that a callvirt names: where it is virtual (flag 40) an object is there to walk from (III.4.2)
unfoldable pub named_virtually : Module → Token → Result CallShape Trap
named_virtually m t = named_method m t >>= λ (shape : CallShape). ask X2
    (shape.this || not (is_virtual m t)) >>= λ _. Ok shape

-- a call of a static method or of a constructor touches
abbrev pub call_touches : Module → Token → Bool
call_touches m method = is_static_method m method || is_constructor m method

-- the first argument isn't null, where one is asked for
abbrev pub object_of : List Value → Result ℕ Trap
object_of [] = Err X3
object_of (v ∷ rest) = reference v >>= not_null

abbrev pub ask_object : Bool → List Value → Result Bool Trap
ask_object wanted args = if wanted then (object_of args >>= λ _. Ok true) else Ok true

-- the method that a virtual call reaches on an object: none on a text or an array; X9 where the object isn't of the
-- class that declares the method
abbrev pub class_of_shape : Option ObjectShape → Option Token
class_of_shape (Some (shape.Object class)) = Some class
class_of_shape _ = None

abbrev pub class_of_object : Store → ℕ → Option Token
class_of_object s id = class_of_shape (shape_in s id)

unfoldable pub reached_on : Module → Store → ℕ → Token → Result Token Trap
reached_on m s id method =
    or_trap (if is_interface m (declaring m method) then X10 else X9)
    (option_and_then (λ class. target_of m class method) (class_of_object s id))

-- which method is entered: the named one, or the one that the object has for it
abbrev pub chosen : Bool → Module → Store → List Value → Token → Result Token Trap
chosen true m s args method = object_of args >>= λ id. reached_on m s id method
chosen false m s args method = Ok method

-- a call, by whether the object may be null, and whether the object tells the method
unfoldable pub call_with : {C : Type 0} → World C → Bool → Bool → ℕ → Token → CallShape → Thread C → Shared
    → Result (Made C) Trap
call_with w asks virtual next method shape t s =
    arguments (length (argument_kinds shape)) t.top.stack >>= λ taken. fit_all
    (argument_kinds shape) taken >>= λ args. ask_object asks args >>= λ _.
    chosen virtual w.plain s.store args method >>= λ target.
    enter w t (moved_on next (drop (length (argument_kinds shape)) t.top.stack) t.top) target args >>= λ u.
    Ok (entering s target u)

-- call, callvirt of a method of the module
unfoldable pub call : {C : Type 0} → World C → ℕ → Token → Shared → Thread C → Result (Made C) Trap
call w next method s t =
    named_method w.plain method >>= λ shape.
    touch_if (call_touches w.plain method) w s t (declaring w.plain method)
    (call_with w false false next method shape t)

unfoldable pub call_virtual : {C : Type 0} → World C → ℕ → Token → Shared → Thread C → Result (Made C) Trap
call_virtual w next method s t =
    named_virtually w.plain method >>= λ (shape : CallShape).
    touch_if (call_touches w.plain method) w s t (declaring w.plain method)
    (call_with w shape.this (shape.this && is_virtual w.plain method) next method shape t)

-- newobj: the object goes on the caller's stack first
unfoldable pub construct : {C : Type 0} → World C → ℕ → Token → CallShape → Thread C → Shared → Result (Made C) Trap
construct w next method shape t s =
    arguments (length shape.takes) t.top.stack >>= λ taken. fit_all shape.takes taken >>= λ args. or_trap X10
    (w.now method) >>= λ code.
    ask X11 (nat_lt (length t.below + 1) most_frames) >>= λ _. new_in
    (Instance (declaring w.plain method)) 0 s.store >>= λ n.
    pushed ((w.body t.top.code).stack) (Obj n.1)
    (moved_on next (drop (length shape.takes) t.top.stack) t.top) >>= λ caller.
    Ok (entering (record s { store = n.0 }) method
    (record { top = new_frame w method code (Obj n.1 ∷ args); below = caller ∷ t.below; flight = None }))

unfoldable pub new_object : {C : Type 0} → World C → ℕ → Token → Shared → Thread C → Result (Made C) Trap
new_object w next method s t =
    named_method w.plain method >>= λ (shape : CallShape).
    ask X2 (shape.this && not (is_value_type (cells_of w.plain) (declaring w.plain method))) >>= λ _.
    touch w s t (declaring w.plain method) (construct w next method shape t)

abbrev pub handed : {C : Type 0} → World C → Option Value → Frame C → Result (Frame C) Trap
handed w None f = Ok f
handed w (Some v) f = pushed ((w.body f.code).stack) v f

-- the frame is left; the task ends with its last one
abbrev pub left_to : {C : Type 0} → World C → Shared → Token → Option Value → List (Frame C) → Result (Made C) Trap
left_to w s method value [] = Ok
    (record { shared = s; thread = None; shown = record nothing_shown { left = Some method } })
left_to w s method value (f ∷ below) =
    handed w value f >>= λ g.
    Ok (record {
      shared = s;
      thread = Some (record { top = g; below = below; flight = None });
      shown = record nothing_shown { left = Some method };
    })

-- ret (III.3.57)
unfoldable pub return_from : {C : Type 0} → World C → Shared → Thread C → Result (Made C) Trap
return_from w s t =
    or_trap X2 (call_shape w.plain t.top.method) >>= λ (shape : CallShape).
    value_given shape.gives t.top.stack >>= λ value.
    left_to w s t.top.method value t.below
