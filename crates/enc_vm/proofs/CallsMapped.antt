-- Calls, returns and first touches do the same whatever the codes of frames are.
use Rattle.std.proofs.Common.{◌≡◌, ℕ, ◌+◌, Bool, false, not, ◌&&◌, List, [], ◌∷◌, length, drop, map, Option, Some, None, Result, refl, nat_lt, option_map}
use Rattle.std.proofs.lemmas.List.{length-map}
use Rattle.enc_base.specs.declared.token.Token.{Token}
use Rattle.enc_dispatch.specs.Walks.{is_virtual}
use Rattle.enc_machine_types.specs.Elements.{CallShape}
use Rattle.enc_machine_types.specs.Members.{call_shape, type_constructor}
use Rattle.enc_objects.specs.declared.object.Content.TheVariants.{Instance}
use Rattle.enc_objects.specs.declared.trap.Trap.{Trap}
use Rattle.enc_objects.specs.declared.trap.Trap.TheVariants.{X2, X10, X11}
use Rattle.enc_objects.specs.declared.value.Value.{Value}
use Rattle.enc_objects.specs.declared.value.Value.TheVariants.{Obj}
use Rattle.enc_plain.specs.Module.{cells_of}
use Rattle.enc_plain.specs.ValueType.{is_value_type}
use Rattle.enc_vm.proofs.FramesMapped.{pushed_same}
use Rattle.enc_vm.proofs.Mapped.{frame_by, thread_by, made_with_codes, result_by, before, after, along, via, trap_by, either}
use Rattle.enc_vm.specs.Calls.{most_frames, new_frame, enter, with_touched, is_touched, touch_first, touch, touch_if, declaring, named_virtually, call_touches, ask_object, chosen, call_with, call, call_virtual, construct, new_object, handed, left_to, return_from}
use Rattle.enc_frames.specs.Values.{arguments, value_given}
use Rattle.enc_frames.specs.Straight.{named_method}
use Rattle.enc_frames.specs.Machine.{World, Frame, Thread, Shared}
use Rattle.enc_frames.specs.Memory.{new_in}
use Rattle.enc_frames.specs.Results.{or_trap, ask, Made}
use Rattle.enc_frames.specs.Straight.{moved_on, argument_kinds}
use Rattle.enc_frames.specs.Values.{fit_all, pushed}

-- a frame at its method's first instruction
pub new_frame_same : {C D : Type 0} (h : C → D) (u : World D) (now : Token → Option C) (method : Token) (code : C) (args : List Value)
    → new_frame (after h u now) method (h code) args ≡ frame_by h (new_frame (before h u now) method code args)
unfolding new_frame
new_frame_same h u now method code args = refl

pub enter_same : {C D : Type 0} (h : C → D) (u : World D) (now : Token → Option C) (t : Thread C) (caller : Frame C) (method : Token) (args : List Value)
    → enter (after h u now) (thread_by h t) (frame_by h caller) method args ≡ result_by (thread_by h) (enter (before h u now) t caller method args)
unfolding enter new_frame
enter_same h u now t caller method args =
    rw (length-map t.below (frame_by h))
    (via h (thread_by h) (or_trap X10 (option_map h (now method))) (or_trap X10 (now method)) _ _ (trap_by h X10 (now method)) (λ code.
    along (thread_by h) (ask X11 (nat_lt (length t.below + 1) most_frames)) _ _ (λ _. refl)))

-- what goes on behind a touch
abbrev GoesSame : {C D : Type 0} → (C → D) → (Shared → Result (Made C) Trap) → (Shared → Result (Made D) Trap) → Type 0
GoesSame h go on = (s : Shared) → on s ≡ result_by (made_with_codes h) (go s)

touch_first_same : {C D : Type 0} (h : C → D) (u : World D) (now : Token → Option C) (s : Shared) (t : Thread C) (type : Token)
    (go : Shared → Result (Made C) Trap) (on : Shared → Result (Made D) Trap) (constructor : Option Token)
    → GoesSame h go on → touch_first (after h u now) s (thread_by h t) type on constructor ≡ result_by (made_with_codes h) (touch_first (before h u now) s t type go constructor)
touch_first_same h u now s t type go on None same = same (with_touched type s)
touch_first_same h u now s t type go on (Some constructor) same =
    via (thread_by h) (made_with_codes h) (enter (after h u now) (thread_by h t) (frame_by h t.top) constructor []) (enter (before h u now) t t.top constructor [])
    _ _ (enter_same h u now t t.top constructor []) (λ x. refl)

pub touch_same : {C D : Type 0} (h : C → D) (u : World D) (now : Token → Option C) (s : Shared) (t : Thread C) (type : Token)
    (go : Shared → Result (Made C) Trap) (on : Shared → Result (Made D) Trap)
    → GoesSame h go on → touch (after h u now) s (thread_by h t) type on ≡ result_by (made_with_codes h) (touch (before h u now) s t type go)
unfolding touch
touch_same h u now s t type go on same =
    either (result_by (made_with_codes h)) (is_touched type s) _ _ _ _ (same s)
    (touch_first_same h u now s t type go on (type_constructor u.plain type) same)

touch_if_same : {C D : Type 0} (h : C → D) (u : World D) (now : Token → Option C) (needed : Bool) (s : Shared) (t : Thread C) (type : Token)
    (go : Shared → Result (Made C) Trap) (on : Shared → Result (Made D) Trap)
    → GoesSame h go on → touch_if needed (after h u now) s (thread_by h t) type on ≡ result_by (made_with_codes h) (touch_if needed (before h u now) s t type go)
touch_if_same h u now needed s t type go on same =
    either (result_by (made_with_codes h)) needed _ _ _ _ (touch_same h u now s t type go on same) (same s)

-- calls
call_with_same : {C D : Type 0} (h : C → D) (u : World D) (now : Token → Option C) (asks virtual : Bool) (next : ℕ) (method : Token) (shape : CallShape) (t : Thread C) (s : Shared)
    → call_with (after h u now) asks virtual next method shape (thread_by h t) s
    ≡ result_by (made_with_codes h) (call_with (before h u now) asks virtual next method shape t s)
unfolding call_with
call_with_same h u now asks virtual next method shape t s =
    along (made_with_codes h) (arguments (length (argument_kinds shape)) t.top.stack) _ _ (λ taken.
    along (made_with_codes h) (fit_all (argument_kinds shape) taken) _ _ (λ args.
    along (made_with_codes h) (ask_object asks args) _ _ (λ _.
    along (made_with_codes h) (chosen virtual u.plain s.store args method) _ _ (λ target.
    via (thread_by h) (made_with_codes h)
    (enter (after h u now) (thread_by h t) (moved_on next (drop (length (argument_kinds shape)) t.top.stack) (frame_by h t.top)) target args)
    (enter (before h u now) t (moved_on next (drop (length (argument_kinds shape)) t.top.stack) t.top) target args)
    _ _ (enter_same h u now t (moved_on next (drop (length (argument_kinds shape)) t.top.stack) t.top) target args) (λ x. refl)))))

pub call_same : {C D : Type 0} (h : C → D) (u : World D) (now : Token → Option C) (next : ℕ) (method : Token) (s : Shared) (t : Thread C)
    → call (after h u now) next method s (thread_by h t) ≡ result_by (made_with_codes h) (call (before h u now) next method s t)
unfolding call
call_same h u now next method s t =
    along (made_with_codes h) (named_method u.plain method) _ _ (λ shape.
    touch_if_same h u now (call_touches u.plain method) s t (declaring u.plain method)
    (call_with (before h u now) false false next method shape t) (call_with (after h u now) false false next method shape (thread_by h t))
    (call_with_same h u now false false next method shape t))

pub call_virtual_same : {C D : Type 0} (h : C → D) (u : World D) (now : Token → Option C) (next : ℕ) (method : Token) (s : Shared) (t : Thread C)
    → call_virtual (after h u now) next method s (thread_by h t) ≡ result_by (made_with_codes h) (call_virtual (before h u now) next method s t)
unfolding call_virtual
call_virtual_same h u now next method s t =
    along (made_with_codes h) (named_virtually u.plain method) _ _ (λ (shape : CallShape).
    touch_if_same h u now (call_touches u.plain method) s t (declaring u.plain method)
    (call_with (before h u now) shape.this (shape.this && is_virtual u.plain method) next method shape t)
    (call_with (after h u now) shape.this (shape.this && is_virtual u.plain method) next method shape (thread_by h t))
    (call_with_same h u now shape.this (shape.this && is_virtual u.plain method) next method shape t))

construct_same : {C D : Type 0} (h : C → D) (u : World D) (now : Token → Option C) (next : ℕ) (method : Token) (shape : CallShape) (t : Thread C) (s : Shared)
    → construct (after h u now) next method shape (thread_by h t) s ≡ result_by (made_with_codes h) (construct (before h u now) next method shape t s)
unfolding construct new_frame
construct_same h u now next method shape t s =
    rw (length-map t.below (frame_by h))
    (along (made_with_codes h) (arguments (length shape.takes) t.top.stack) _ _ (λ taken.
    along (made_with_codes h) (fit_all shape.takes taken) _ _ (λ args.
    via h (made_with_codes h) (or_trap X10 (option_map h (now method))) (or_trap X10 (now method)) _ _ (trap_by h X10 (now method)) (λ code.
    along (made_with_codes h) (ask X11 (nat_lt (length t.below + 1) most_frames)) _ _ (λ _.
    along (made_with_codes h) (new_in (Instance (declaring u.plain method)) 0 s.store) _ _ (λ n.
    via (frame_by h) (made_with_codes h)
    (pushed ((u.body (h t.top.code)).stack) (Obj n.1) (moved_on next (drop (length shape.takes) t.top.stack) (frame_by h t.top)))
    (pushed ((u.body (h t.top.code)).stack) (Obj n.1) (moved_on next (drop (length shape.takes) t.top.stack) t.top))
    _ _ (pushed_same h ((u.body (h t.top.code)).stack) (Obj n.1) (moved_on next (drop (length shape.takes) t.top.stack) t.top)) (λ caller. refl)))))))

pub new_object_same : {C D : Type 0} (h : C → D) (u : World D) (now : Token → Option C) (next : ℕ) (method : Token) (s : Shared) (t : Thread C)
    → new_object (after h u now) next method s (thread_by h t) ≡ result_by (made_with_codes h) (new_object (before h u now) next method s t)
unfolding new_object
new_object_same h u now next method s t =
    along (made_with_codes h) (named_method u.plain method) _ _ (λ (shape : CallShape).
    along (made_with_codes h) (ask X2 (shape.this && not (is_value_type (cells_of u.plain) (declaring u.plain method)))) _ _ (λ _.
    touch_same h u now s t (declaring u.plain method) (construct (before h u now) next method shape t) (construct (after h u now) next method shape (thread_by h t))
    (construct_same h u now next method shape t)))

-- returns
handed_same : {C D : Type 0} (h : C → D) (u : World D) (now : Token → Option C) (value : Option Value) (f : Frame C)
    → handed (after h u now) value (frame_by h f) ≡ result_by (frame_by h) (handed (before h u now) value f)
handed_same h u now None f = refl
handed_same h u now (Some v) f = pushed_same h ((u.body (h f.code)).stack) v f

left_to_same : {C D : Type 0} (h : C → D) (u : World D) (now : Token → Option C) (s : Shared) (method : Token) (value : Option Value) (below : List (Frame C))
    → left_to (after h u now) s method value (map (frame_by h) below) ≡ result_by (made_with_codes h) (left_to (before h u now) s method value below)
left_to_same h u now s method value [] = refl
left_to_same h u now s method value (f ∷ below) =
    via (frame_by h) (made_with_codes h) (handed (after h u now) value (frame_by h f)) (handed (before h u now) value f) _ _ (handed_same h u now value f) (λ g. refl)

pub return_same : {C D : Type 0} (h : C → D) (u : World D) (now : Token → Option C) (s : Shared) (t : Thread C)
    → return_from (after h u now) s (thread_by h t) ≡ result_by (made_with_codes h) (return_from (before h u now) s t)
unfolding return_from
return_same h u now s t =
    along (made_with_codes h) (or_trap X2 (call_shape u.plain t.top.method)) _ _ (λ (shape : CallShape).
    along (made_with_codes h) (value_given shape.gives t.top.stack) _ _ (λ value. left_to_same h u now s t.top.method value t.below))
