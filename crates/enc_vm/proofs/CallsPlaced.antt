-- Frames that are entered begin at a place, and those that are left to stay at theirs.
use Rattle.std.proofs.Common.{◌≡◌, ℕ, ◌+◌, Bool, true, false, not, ◌&&◌, List, [], ◌∷◌, length, drop, Option, Some, None, Result, refl, nat_lt}
use Rattle.enc_base.specs.declared.token.Token.{Token}
use Rattle.enc_dispatch.specs.Walks.{is_virtual}
use Rattle.enc_machine_types.specs.Elements.{CallShape}
use Rattle.enc_machine_types.specs.Members.{call_shape, type_constructor}
use Rattle.enc_objects.specs.declared.object.Content.TheVariants.{Instance}
use Rattle.enc_objects.specs.declared.trap.Trap.{Trap}
use Rattle.enc_objects.specs.declared.trap.Trap.TheVariants.{X2, X10, X11}
use Rattle.enc_objects.specs.declared.value.Value.{Value}
use Rattle.enc_objects.specs.declared.value.Value.TheVariants.{Obj}
use Rattle.enc_plain.specs.Module.{cells_of}
use Rattle.enc_plain.specs.ValueType.{is_value_type}
use Rattle.enc_vm.proofs.FramesPlaced.{pushed_placed}
use Rattle.enc_vm.proofs.Placed.{AfterOk, AfterSome, through, after_that, or_trapped, either_way, here, zero_place}
use Rattle.enc_vm.specs.Calls.{most_frames, new_frame, enter, with_touched, is_touched, touch_first, touch, touch_if, declaring, named_virtually, call_touches, ask_object, chosen, call_with, call, call_virtual, construct, new_object, handed, left_to, return_from}
use Rattle.enc_frames.specs.Values.{arguments, value_given}
use Rattle.enc_frames.specs.Straight.{named_method}
use Rattle.enc_frames.specs.Machine.{World, Frame, Thread, Shared}
use Rattle.enc_frames.specs.Memory.{new_in}
use Rattle.enc_vm.specs.Placed.{is_place_in, IsSoundCode, IsFramePlaced, AreFramesPlaced, IsThreadPlaced}
use Rattle.enc_frames.specs.Results.{or_trap, ask, Made}
use Rattle.enc_frames.specs.Straight.{moved_on, argument_kinds}
use Rattle.enc_frames.specs.Values.{fit_all, pushed}

-- the frames that a step makes are placed
abbrev pub IsMadePlaced : {C : Type 0} → World C → Made C → Type 0
IsMadePlaced w m = AfterSome (IsThreadPlaced w) m.thread

-- the codes that methods have now are sound
abbrev pub AreSoundNow : {C : Type 0} → World C → Type 0
AreSoundNow {C} w = (t : Token) → AfterSome (λ (c : C). IsSoundCode (w.body c)) (w.now t)

-- a new frame
pub new_frame_placed : {C : Type 0} (w : World C) (method : Token) (code : C) (args : List Value) → IsSoundCode (w.body code) → IsFramePlaced w (new_frame w method code args)
unfolding new_frame
new_frame_placed w method code args sound = record { sound = sound; at = zero_place (w.body code) sound; leaves = refl }

pub enter_placed : {C : Type 0} (w : World C) (t : Thread C) (caller : Frame C) (method : Token) (args : List Value)
    → AreSoundNow w → IsFramePlaced w caller → AreFramesPlaced w t.below → AfterOk (IsThreadPlaced w) (enter w t caller method args)
unfolding enter
enter_placed {C} w t caller method args sound c b =
    after_that (λ (code : C). IsSoundCode (w.body code)) (IsThreadPlaced w) (or_trap X10 (w.now method)) _
    (or_trapped (λ (code : C). IsSoundCode (w.body code)) X10 (w.now method) (sound method)) (λ code is.
    through (IsThreadPlaced w) (ask X11 (nat_lt (length t.below + 1) most_frames)) _ (λ _. (new_frame_placed w method code args is, (c, b))))

-- what goes on behind a touch
abbrev GoesPlaced : {C : Type 0} → World C → (Shared → Result (Made C) Trap) → Type 0
GoesPlaced w go = (s : Shared) → AfterOk (IsMadePlaced w) (go s)

touch_first_placed : {C : Type 0} (w : World C) (s : Shared) (t : Thread C) (type : Token) (go : Shared → Result (Made C) Trap) (constructor : Option Token)
    → AreSoundNow w → IsThreadPlaced w t → GoesPlaced w go → AfterOk (IsMadePlaced w) (touch_first w s t type go constructor)
touch_first_placed w s t type go None sound p goes = goes (with_touched type s)
touch_first_placed w s t type go (Some constructor) sound p goes =
    after_that (IsThreadPlaced w) (IsMadePlaced w) (enter w t t.top constructor []) _ (enter_placed w t t.top constructor [] sound p.0 p.1) (λ u q. q)

pub touch_placed : {C : Type 0} (w : World C) (s : Shared) (t : Thread C) (type : Token) (go : Shared → Result (Made C) Trap)
    → AreSoundNow w → IsThreadPlaced w t → GoesPlaced w go → AfterOk (IsMadePlaced w) (touch w s t type go)
unfolding touch
touch_placed w s t type go sound p goes =
    either_way (AfterOk (IsMadePlaced w)) (is_touched type s) _ _ (goes s) (touch_first_placed w s t type go (type_constructor w.plain type) sound p goes)

touch_if_placed : {C : Type 0} (w : World C) (needed : Bool) (s : Shared) (t : Thread C) (type : Token) (go : Shared → Result (Made C) Trap)
    → AreSoundNow w → IsThreadPlaced w t → GoesPlaced w go → AfterOk (IsMadePlaced w) (touch_if needed w s t type go)
touch_if_placed w needed s t type go sound p goes =
    either_way (AfterOk (IsMadePlaced w)) needed _ _ (touch_placed w s t type go sound p goes) (goes s)

-- calls
call_with_placed : {C : Type 0} (w : World C) (asks virtual : Bool) (next : ℕ) (method : Token) (shape : CallShape) (t : Thread C) (s : Shared)
    → AreSoundNow w → IsThreadPlaced w t → is_place_in (w.body t.top.code) next ≡ true → AfterOk (IsMadePlaced w) (call_with w asks virtual next method shape t s)
unfolding call_with
call_with_placed w asks virtual next method shape t s sound p n =
    through (IsMadePlaced w) (arguments (length (argument_kinds shape)) t.top.stack) _ (λ taken.
    through (IsMadePlaced w) (fit_all (argument_kinds shape) taken) _ (λ args.
    through (IsMadePlaced w) (ask_object asks args) _ (λ _.
    through (IsMadePlaced w) (chosen virtual w.plain s.store args method) _ (λ target.
    after_that (IsThreadPlaced w) (IsMadePlaced w)
    (enter w t (moved_on next (drop (length (argument_kinds shape)) t.top.stack) t.top) target args) _
    (enter_placed w t (moved_on next (drop (length (argument_kinds shape)) t.top.stack) t.top) target args sound (here w t.top _ next _ _ _ p.0 n) p.1) (λ u q. q)))))

pub call_placed : {C : Type 0} (w : World C) (next : ℕ) (method : Token) (s : Shared) (t : Thread C)
    → AreSoundNow w → IsThreadPlaced w t → is_place_in (w.body t.top.code) next ≡ true → AfterOk (IsMadePlaced w) (call w next method s t)
unfolding call
call_placed w next method s t sound p n =
    through (IsMadePlaced w) (named_method w.plain method) _ (λ shape.
    touch_if_placed w (call_touches w.plain method) s t (declaring w.plain method) (call_with w false false next method shape t) sound p
    (λ x. call_with_placed w false false next method shape t x sound p n))

pub call_virtual_placed : {C : Type 0} (w : World C) (next : ℕ) (method : Token) (s : Shared) (t : Thread C)
    → AreSoundNow w → IsThreadPlaced w t → is_place_in (w.body t.top.code) next ≡ true → AfterOk (IsMadePlaced w) (call_virtual w next method s t)
unfolding call_virtual
call_virtual_placed w next method s t sound p n =
    through (IsMadePlaced w) (named_virtually w.plain method) _ (λ (shape : CallShape).
    touch_if_placed w (call_touches w.plain method) s t (declaring w.plain method)
    (call_with w shape.this (shape.this && is_virtual w.plain method) next method shape t) sound p
    (λ x. call_with_placed w shape.this (shape.this && is_virtual w.plain method) next method shape t x sound p n))

construct_placed : {C : Type 0} (w : World C) (next : ℕ) (method : Token) (shape : CallShape) (t : Thread C) (s : Shared)
    → AreSoundNow w → IsThreadPlaced w t → is_place_in (w.body t.top.code) next ≡ true → AfterOk (IsMadePlaced w) (construct w next method shape t s)
unfolding construct
construct_placed {C} w next method shape t s sound p n =
    through (IsMadePlaced w) (arguments (length shape.takes) t.top.stack) _ (λ taken.
    through (IsMadePlaced w) (fit_all shape.takes taken) _ (λ args.
    after_that (λ (code : C). IsSoundCode (w.body code)) (IsMadePlaced w) (or_trap X10 (w.now method)) _
    (or_trapped (λ (code : C). IsSoundCode (w.body code)) X10 (w.now method) (sound method)) (λ code is.
    through (IsMadePlaced w) (ask X11 (nat_lt (length t.below + 1) most_frames)) _ (λ _.
    through (IsMadePlaced w) (new_in (Instance (declaring w.plain method)) 0 s.store) _ (λ o.
    after_that (IsFramePlaced w) (IsMadePlaced w)
    (pushed ((w.body t.top.code).stack) (Obj o.1) (moved_on next (drop (length shape.takes) t.top.stack) t.top)) _
    (pushed_placed w ((w.body t.top.code).stack) (Obj o.1) (moved_on next (drop (length shape.takes) t.top.stack) t.top) (here w t.top _ next _ _ _ p.0 n))
    (λ caller q. (new_frame_placed w method code (Obj o.1 ∷ args) is, (q, p.1))))))))

pub new_object_placed : {C : Type 0} (w : World C) (next : ℕ) (method : Token) (s : Shared) (t : Thread C)
    → AreSoundNow w → IsThreadPlaced w t → is_place_in (w.body t.top.code) next ≡ true → AfterOk (IsMadePlaced w) (new_object w next method s t)
unfolding new_object
new_object_placed w next method s t sound p n =
    through (IsMadePlaced w) (named_method w.plain method) _ (λ (shape : CallShape).
    through (IsMadePlaced w) (ask X2 (shape.this && not (is_value_type (cells_of w.plain) (declaring w.plain method)))) _ (λ _.
    touch_placed w s t (declaring w.plain method) (construct w next method shape t) sound p (λ x. construct_placed w next method shape t x sound p n)))

-- returns
handed_placed : {C : Type 0} (w : World C) (value : Option Value) (f : Frame C) → IsFramePlaced w f → AfterOk (IsFramePlaced w) (handed w value f)
handed_placed w None f p = p
handed_placed w (Some v) f p = pushed_placed w ((w.body f.code).stack) v f p

left_to_placed : {C : Type 0} (w : World C) (s : Shared) (method : Token) (value : Option Value) (below : List (Frame C))
    → AreFramesPlaced w below → AfterOk (IsMadePlaced w) (left_to w s method value below)
left_to_placed w s method value [] p = tt
left_to_placed w s method value (f ∷ below) p =
    after_that (IsFramePlaced w) (IsMadePlaced w) (handed w value f) _ (handed_placed w value f p.0) (λ g q. (q, p.1))

pub return_placed : {C : Type 0} (w : World C) (s : Shared) (t : Thread C) → IsThreadPlaced w t → AfterOk (IsMadePlaced w) (return_from w s t)
unfolding return_from
return_placed w s t p =
    through (IsMadePlaced w) (or_trap X2 (call_shape w.plain t.top.method)) _ (λ (shape : CallShape).
    through (IsMadePlaced w) (value_given shape.gives t.top.stack) _ (λ value. left_to_placed w s t.top.method value t.below p.1))
