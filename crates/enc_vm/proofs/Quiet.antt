-- Instructions that write nothing, within any bound.
use Rattle.std.proofs.Common.{ℕ, ◌+◌, ◌≤◌, Bool, false, not, ◌&&◌, List, [], ◌∷◌, length, drop, Option, Some, None, Result}
use Rattle.std.specs.Prelude.{IfSome, nat_lt}
use Rattle.enc_base.specs.declared.token.Token.{Token}
use Rattle.enc_dispatch.specs.Walks.{is_virtual}
use Rattle.enc_machine_types.specs.Elements.{CallShape}
use Rattle.enc_machine_types.specs.Members.{call_shape, type_constructor}
use Rattle.enc_objects.specs.declared.kind.Kind.{Kind}
use Rattle.enc_objects.specs.declared.object.Content.TheVariants.{Instance}
use Rattle.enc_objects.specs.declared.trap.Trap.{Trap}
use Rattle.enc_objects.specs.declared.trap.Trap.TheVariants.{X2, X10, X11}
use Rattle.enc_objects.specs.declared.value.Value.{Value}
use Rattle.enc_objects.specs.declared.value.Value.TheVariants.{Obj}
use Rattle.enc_plain.specs.Module.{cells_of}
use Rattle.enc_plain.specs.ValueType.{is_value_type}
use Rattle.enc_vm.proofs.Placed.{AfterOk, through, either_way}
use Rattle.enc_vm.specs.Calls.{most_frames, enter, with_touched, is_touched, touch_first, touch, touch_if, declaring, named_virtually, call_touches, ask_object, chosen, call_with, call, call_virtual, construct, new_object, handed, left_to, return_from}
use Rattle.enc_frames.specs.Values.{arguments, value_given}
use Rattle.enc_frames.specs.Straight.{named_method}
use Rattle.enc_frames.specs.Machine.{World, Frame, Thread, Shared}
use Rattle.enc_frames.specs.Memory.{new_in, named_field, Stored}
use Rattle.enc_frames.specs.Results.{or_trap, ask, Shown, Made}
use Rattle.enc_vm.specs.Step.{framed, stored, threaded, on_static}
use Rattle.enc_frames.specs.Straight.{Framed, moved_on, argument_kinds}
use Rattle.enc_frames.specs.Values.{fit_all, pushed}

-- so many units are written at most
abbrev pub ShowsWithin : ℕ → Shown → Type 0
ShowsWithin n shown = IfSome shown.wrote (λ (units : List ℕ). length units ≤ n)

abbrev pub IsWithin : {C : Type 0} → ℕ → Made C → Type 0
IsWithin n m = ShowsWithin n m.shown

-- what changes frames and objects alone
pub framed_within : {C : Type 0} (n : ℕ) (s : Shared) (t : Thread C) (r : Framed C) → AfterOk (IsWithin n) (framed s t r)
framed_within n s t r = through (IsWithin n) r _ (λ f. tt)

pub stored_within : {C : Type 0} (n : ℕ) (s : Shared) (t : Thread C) (r : Stored C) → AfterOk (IsWithin n) (stored s t r)
stored_within n s t r = through (IsWithin n) r _ (λ x. tt)

pub threaded_within : {C : Type 0} (n : ℕ) (s : Shared) (r : Result (Thread C) Trap) → AfterOk (IsWithin n) (threaded s r)
threaded_within n s r = through (IsWithin n) r _ (λ t. tt)

-- what goes on behind a touch
abbrev GoesWithin : {C : Type 0} → ℕ → (Shared → Result (Made C) Trap) → Type 0
GoesWithin n go = (s : Shared) → AfterOk (IsWithin n) (go s)

touch_first_within : {C : Type 0} (n : ℕ) (w : World C) (s : Shared) (t : Thread C) (type : Token) (go : Shared → Result (Made C) Trap) (constructor : Option Token)
    → GoesWithin n go → AfterOk (IsWithin n) (touch_first w s t type go constructor)
touch_first_within n w s t type go None goes = goes (with_touched type s)
touch_first_within n w s t type go (Some constructor) goes = through (IsWithin n) (enter w t t.top constructor []) _ (λ u. tt)

touch_within : {C : Type 0} (n : ℕ) (w : World C) (s : Shared) (t : Thread C) (type : Token) (go : Shared → Result (Made C) Trap)
    → GoesWithin n go → AfterOk (IsWithin n) (touch w s t type go)
unfolding touch
touch_within n w s t type go goes =
    either_way (AfterOk (IsWithin n)) (is_touched type s) _ _ (goes s) (touch_first_within n w s t type go (type_constructor w.plain type) goes)

touch_if_within : {C : Type 0} (n : ℕ) (needed : Bool) (w : World C) (s : Shared) (t : Thread C) (type : Token) (go : Shared → Result (Made C) Trap)
    → GoesWithin n go → AfterOk (IsWithin n) (touch_if needed w s t type go)
touch_if_within n needed w s t type go goes = either_way (AfterOk (IsWithin n)) needed _ _ (touch_within n w s t type go goes) (goes s)

pub static_within : {C : Type 0} (n : ℕ) (w : World C) (s : Shared) (t : Thread C) (field : Token) (go : Kind → Shared → Result (Made C) Trap)
    → ((k : Kind) (x : Shared) → AfterOk (IsWithin n) (go k x)) → AfterOk (IsWithin n) (on_static w s t field go)
static_within n w s t field go goes =
    through (IsWithin n) (named_field w.plain field) _ (λ k. touch_within n w s t (declaring w.plain field) (go k) (goes k))

-- calls
call_with_within : {C : Type 0} (n : ℕ) (w : World C) (asks virtual : Bool) (next : ℕ) (method : Token) (shape : CallShape) (t : Thread C) (s : Shared)
    → AfterOk (IsWithin n) (call_with w asks virtual next method shape t s)
unfolding call_with
call_with_within n w asks virtual next method shape t s =
    through (IsWithin n) (arguments (length (argument_kinds shape)) t.top.stack) _ (λ taken.
    through (IsWithin n) (fit_all (argument_kinds shape) taken) _ (λ args.
    through (IsWithin n) (ask_object asks args) _ (λ _.
    through (IsWithin n) (chosen virtual w.plain s.store args method) _ (λ target.
    through (IsWithin n) (enter w t (moved_on next (drop (length (argument_kinds shape)) t.top.stack) t.top) target args) _ (λ u. tt)))))

pub call_within : {C : Type 0} (n : ℕ) (w : World C) (next : ℕ) (method : Token) (s : Shared) (t : Thread C) → AfterOk (IsWithin n) (call w next method s t)
unfolding call
call_within n w next method s t =
    through (IsWithin n) (named_method w.plain method) _ (λ shape.
    touch_if_within n (call_touches w.plain method) w s t (declaring w.plain method) (call_with w false false next method shape t)
    (λ x. call_with_within n w false false next method shape t x))

pub call_virtual_within : {C : Type 0} (n : ℕ) (w : World C) (next : ℕ) (method : Token) (s : Shared) (t : Thread C)
    → AfterOk (IsWithin n) (call_virtual w next method s t)
unfolding call_virtual
call_virtual_within n w next method s t =
    through (IsWithin n) (named_virtually w.plain method) _ (λ (shape : CallShape).
    touch_if_within n (call_touches w.plain method) w s t (declaring w.plain method)
    (call_with w shape.this (shape.this && is_virtual w.plain method) next method shape t)
    (λ x. call_with_within n w shape.this (shape.this && is_virtual w.plain method) next method shape t x))

construct_within : {C : Type 0} (n : ℕ) (w : World C) (next : ℕ) (method : Token) (shape : CallShape) (t : Thread C) (s : Shared)
    → AfterOk (IsWithin n) (construct w next method shape t s)
unfolding construct
construct_within n w next method shape t s =
    through (IsWithin n) (arguments (length shape.takes) t.top.stack) _ (λ taken.
    through (IsWithin n) (fit_all shape.takes taken) _ (λ args.
    through (IsWithin n) (or_trap X10 (w.now method)) _ (λ code.
    through (IsWithin n) (ask X11 (nat_lt (length t.below + 1) most_frames)) _ (λ _.
    through (IsWithin n) (new_in (Instance (declaring w.plain method)) 0 s.store) _ (λ o.
    through (IsWithin n) (pushed ((w.body t.top.code).stack) (Obj o.1) (moved_on next (drop (length shape.takes) t.top.stack) t.top)) _ (λ caller. tt))))))

pub new_object_within : {C : Type 0} (n : ℕ) (w : World C) (next : ℕ) (method : Token) (s : Shared) (t : Thread C)
    → AfterOk (IsWithin n) (new_object w next method s t)
unfolding new_object
new_object_within n w next method s t =
    through (IsWithin n) (named_method w.plain method) _ (λ (shape : CallShape).
    through (IsWithin n) (ask X2 (shape.this && not (is_value_type (cells_of w.plain) (declaring w.plain method)))) _ (λ _.
    touch_within n w s t (declaring w.plain method) (construct w next method shape t) (λ x. construct_within n w next method shape t x)))

-- returns
left_to_within : {C : Type 0} (n : ℕ) (w : World C) (s : Shared) (method : Token) (value : Option Value) (below : List (Frame C))
    → AfterOk (IsWithin n) (left_to w s method value below)
left_to_within n w s method value [] = tt
left_to_within n w s method value (f ∷ below) = through (IsWithin n) (handed w value f) _ (λ g. tt)

pub return_within : {C : Type 0} (n : ℕ) (w : World C) (s : Shared) (t : Thread C) → AfterOk (IsWithin n) (return_from w s t)
unfolding return_from
return_within n w s t =
    through (IsWithin n) (or_trap X2 (call_shape w.plain t.top.method)) _ (λ (shape : CallShape).
    through (IsWithin n) (value_given shape.gives t.top.stack) _ (λ value. left_to_within n w s t.top.method value t.below))
