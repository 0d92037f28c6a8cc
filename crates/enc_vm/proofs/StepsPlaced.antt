-- A step of a task whose frames are placed leaves them placed, and a new task's are.
use Rattle.std.proofs.Common.{◌≡◌, ℕ, true, false, List, [], Option, Some, None, Result, Ok, Err, is_some, option_map, option_and_then}
use Rattle.enc_base.specs.declared.token.Token.{Token}
use Rattle.enc_machine_types.specs.Members.{type_constructor}
use Rattle.enc_machine_types.specs.Types.{type_kind}
use Rattle.enc_objects.specs.Instructions.{binary_in, unary_in}
use Rattle.enc_objects.specs.Objects.{Store}
use Rattle.enc_objects.specs.declared.kind.Kind.{Kind}
use Rattle.enc_objects.specs.declared.trap.Trap.{Trap}
use Rattle.enc_objects.specs.declared.trap.Trap.TheVariants.{X1, X2}
use Rattle.enc_opcodes.specs.Instruction.{Argument, nothing, number, target, targets, token, text, raw}
use Rattle.enc_opcodes.specs.declared.op.Op.{Op}
use Rattle.enc_vm.proofs.ActsPlaced.{IsFrameActPlaced, IsActPlaced, IsArgumentPlaced, IsReadingPlaced, bare_placed, numbered_placed, token_placed, branch_placed, reading_placed}
use Rattle.enc_vm.proofs.CallsPlaced.{IsMadePlaced, AreSoundNow, new_frame_placed, touch_placed, call_placed, call_virtual_placed, new_object_placed, return_placed}
use Rattle.enc_vm.proofs.ConsolePlaced.{call_outside_placed, new_outside_placed}
use Rattle.enc_vm.proofs.FramesPlaced.{load_placed, load_argument_placed, load_local_placed, store_argument_placed, store_local_placed, duplicate_placed, discard_placed, branch_if_placed, branch_by_placed, switch_placed, on_upper_two_placed, on_top_placed}
use Rattle.enc_vm.proofs.HandlersPlaced.{leave_placed, throw_placed, end_finally_placed, IsFlownPlaced, fly_placed}
use Rattle.enc_vm.proofs.ObjectsPlaced.{IsPairPlaced, load_text_placed, load_field_placed, store_field_placed, load_static_placed, store_static_placed, new_array_placed, array_length_placed, load_element_placed, store_element_placed, cast_placed, instance_placed}
use Rattle.enc_vm.proofs.Placed.{AfterOk, AfterSome, through, after_that, or_trapped, either_way, here}
use Rattle.enc_frames.specs.Acts.{bare_act, numbered_act, branch_act, token_act}
use Rattle.enc_vm.specs.Calls.{declaring, is_touched, new_frame}
use Rattle.enc_frames.specs.Handlers.{Flown, fly}
use Rattle.enc_frames.specs.Machine.{World, Frame, Thread, Task, going, ended, trapped, Shared}
use Rattle.enc_frames.specs.Memory.{named_field, load_static, store_static, Stored}
use Rattle.enc_vm.specs.Placed.{is_place_in, IsSoundCode, IsFramePlaced, IsThreadPlaced, IsTaskPlaced}
use Rattle.enc_frames.specs.Results.{or_trap, Made, Shown, nothing_shown}
use Rattle.enc_vm.specs.Step.{instruction_of, framed, stored, threaded, on_static, is_own_method, act_on, act_or_trap, perform, advance, line_of, Stepped, stepped, stepped_by, flight_made, stepped_with, step_task, first_thread, frame_now, constructor_frame}
use Rattle.enc_frames.specs.FrameActs.{frame_act, object_act}
use Rattle.enc_frames.specs.Straight.{Framed, argument_kind, local_kind}
use Rattle.enc_frames.specs.declared.act.Act.{Act}
use Rattle.enc_frames.specs.declared.act.Act.TheVariants as act
use Rattle.enc_frames.specs.declared.act.FrameAct.{FrameAct}
use Rattle.enc_frames.specs.declared.act.FrameAct.TheVariants as frame
use Rattle.enc_frames.specs.declared.act.ObjectAct.{ObjectAct}
use Rattle.enc_frames.specs.declared.act.ObjectAct.TheVariants as object
use Rattle.enc_frames.specs.declared.handler.Flight.{Flight}

-- from a frame, from the store and a frame, and from frames to what the step makes
framed_placed : {C : Type 0} (w : World C) (s : Shared) (t : Thread C) (r : Framed C) → IsThreadPlaced w t → AfterOk (IsFramePlaced w) r → AfterOk (IsMadePlaced w) (framed s t r)
framed_placed w s t r p holds = after_that (IsFramePlaced w) (IsMadePlaced w) r _ holds (λ f q. (q, p.1))

stored_placed : {C : Type 0} (w : World C) (s : Shared) (t : Thread C) (r : Stored C) → IsThreadPlaced w t → AfterOk (IsPairPlaced w) r → AfterOk (IsMadePlaced w) (stored s t r)
stored_placed w s t r p holds = after_that (IsPairPlaced w) (IsMadePlaced w) r _ holds (λ x q. (q, p.1))

threaded_placed : {C : Type 0} (w : World C) (s : Shared) (r : Result (Thread C) Trap) → AfterOk (IsThreadPlaced w) r → AfterOk (IsMadePlaced w) (threaded s r)
threaded_placed w s r holds = after_that (IsThreadPlaced w) (IsMadePlaced w) r _ holds (λ t q. q)

frame_act_placed : {C : Type 0} (w : World C) (next : ℕ) (a : FrameAct) (f : Frame C)
    → IsFramePlaced w f → is_place_in (w.body f.code) next ≡ true → IsFrameActPlaced (w.body f.code) a → AfterOk (IsFramePlaced w) (frame_act w next a f)
unfolding frame_act
frame_act_placed w next frame.Nothing f p n g = here w f _ next _ _ _ p n
frame_act_placed w next (frame.LoadArg k) f p n g = load_argument_placed w ((w.body f.code).stack) next k f p n
frame_act_placed w next (frame.StoreArg k) f p n g = store_argument_placed w (argument_kind w.plain f k) next k f p n
frame_act_placed w next (frame.LoadLocal k) f p n g = load_local_placed w ((w.body f.code).stack) next k f p n
frame_act_placed w next (frame.StoreLocal k) f p n g = store_local_placed w (local_kind w.plain ((w.body f.code).locals) f k) next k f p n
frame_act_placed w next (frame.Constant v) f p n g = load_placed w ((w.body f.code).stack) next v f p n
frame_act_placed w next frame.Duplicate f p n g = duplicate_placed w ((w.body f.code).stack) next f p n
frame_act_placed w next frame.Discard f p n g = discard_placed w next f p n
frame_act_placed w next (frame.Branch goal) f p n g = here w f _ goal _ _ _ p g
frame_act_placed w next (frame.BranchIf wanted goal) f p n g = branch_if_placed w wanted goal next f p g n
frame_act_placed w next (frame.BranchBy test goal) f p n g = branch_by_placed w test goal next f p g n
frame_act_placed w next (frame.Leave goal) f p n g = leave_placed w goal f p g

object_act_placed : {C : Type 0} (w : World C) (next : ℕ) (a : ObjectAct) (s : Store) (f : Frame C)
    → IsFramePlaced w f → is_place_in (w.body f.code) next ≡ true → AfterOk (IsPairPlaced w) (object_act w next a s f)
unfolding object_act
object_act_placed w next (object.LoadField field) s f p n = through (IsPairPlaced w) (named_field w.plain field) _ (λ k. load_field_placed w k next field s f p n)
object_act_placed w next (object.StoreField field) s f p n = through (IsPairPlaced w) (named_field w.plain field) _ (λ k. store_field_placed w k next field s f p n)
object_act_placed w next (object.NewArray type) s f p n = through (IsPairPlaced w) (or_trap X2 (type_kind w.plain type)) _ (λ k. new_array_placed w k next s f p n)
object_act_placed w next object.Length s f p n = array_length_placed w next s f p n
object_act_placed w next (object.LoadElement k) s f p n = load_element_placed w k next s f p n
object_act_placed w next (object.LoadElementOf type) s f p n = through (IsPairPlaced w) (or_trap X2 (type_kind w.plain type)) _ (λ k. load_element_placed w k next s f p n)
object_act_placed w next (object.StoreElement k) s f p n = store_element_placed w k next s f p n
object_act_placed w next (object.StoreElementOf type) s f p n = through (IsPairPlaced w) (or_trap X2 (type_kind w.plain type)) _ (λ k. store_element_placed w k next s f p n)
object_act_placed w next (object.Cast type) s f p n = cast_placed w w.plain next type s f p n
object_act_placed w next (object.IsInstance type) s f p n = instance_placed w w.plain next type s f p n

static_placed : {C : Type 0} (w : World C) (s : Shared) (t : Thread C) (field : Token) (go : Kind → Shared → Result (Made C) Trap)
    → AreSoundNow w → IsThreadPlaced w t → ((k : Kind) (x : Shared) → AfterOk (IsMadePlaced w) (go k x)) → AfterOk (IsMadePlaced w) (on_static w s t field go)
static_placed w s t field go sound p goes =
    through (IsMadePlaced w) (named_field w.plain field) _ (λ k. touch_placed w s t (declaring w.plain field) (go k) sound p (goes k))

act_placed : {C : Type 0} (w : World C) (next : ℕ) (a : Act) (s : Shared) (t : Thread C)
    → AreSoundNow w → IsThreadPlaced w t → is_place_in (w.body t.top.code) next ≡ true → IsActPlaced (w.body t.top.code) a → AfterOk (IsMadePlaced w) (act_on w next a s t)
unfolding act_on
act_placed w next (act.Frame a) s t sound p n g = framed_placed w s t _ p (frame_act_placed w next a t.top p.0 n g)
act_placed w next (act.Object a) s t sound p n g = stored_placed w s t _ p (object_act_placed w next a s.store t.top p.0 n)
act_placed w next act.Return s t sound p n g = return_placed w s t p
act_placed w next (act.Call method) s t sound p n g =
    either_way (AfterOk (IsMadePlaced w)) (is_own_method method) _ _ (call_placed w next method s t sound p n) (call_outside_placed w false next method s t p n)
act_placed w next (act.CallVirtual method) s t sound p n g =
    either_way (AfterOk (IsMadePlaced w)) (is_own_method method) _ _ (call_virtual_placed w next method s t sound p n) (call_outside_placed w true next method s t p n)
act_placed w next (act.NewObject method) s t sound p n g =
    either_way (AfterOk (IsMadePlaced w)) (is_own_method method) _ _ (new_object_placed w next method s t sound p n) (new_outside_placed w next method s t p n)
act_placed w next (act.LoadStatic field) s t sound p n g =
    static_placed w s t field (λ k x. stored x t (load_static k ((w.body t.top.code).stack) next field x.store t.top)) sound p
    (λ k x. stored_placed w x t _ p (load_static_placed w k ((w.body t.top.code).stack) next field x.store t.top p.0 n))
act_placed w next (act.StoreStatic field) s t sound p n g =
    static_placed w s t field (λ k x. stored x t (store_static k next field x.store t.top)) sound p
    (λ k x. stored_placed w x t _ p (store_static_placed w k next field x.store t.top p.0 n))
act_placed w next act.Throw s t sound p n g = threaded_placed w s _ (throw_placed w s.store t p)
act_placed w next act.EndFinally s t sound p n g = threaded_placed w s _ (end_finally_placed w t p)

act_or_trap_placed : {C : Type 0} (w : World C) (next : ℕ) (a : Option Act) (s : Shared) (t : Thread C)
    → AreSoundNow w → IsThreadPlaced w t → is_place_in (w.body t.top.code) next ≡ true → AfterSome (IsActPlaced (w.body t.top.code)) a
    → AfterOk (IsMadePlaced w) (act_or_trap w next a s t)
act_or_trap_placed w next None s t sound p n g = tt
act_or_trap_placed w next (Some a) s t sound p n g = act_placed w next a s t sound p n g

perform_placed : {C : Type 0} (w : World C) (next : ℕ) (op : Op) (a : Argument (List ℕ)) (s : Shared) (t : Thread C)
    → AreSoundNow w → IsThreadPlaced w t → is_place_in (w.body t.top.code) next ≡ true → IsArgumentPlaced (w.body t.top.code) a
    → AfterOk (IsMadePlaced w) (perform w next op a s t)
unfolding perform
perform_placed w next op nothing s t sound p n g =
    either_way (AfterOk (IsMadePlaced w)) (is_some (binary_in op)) _ _ (framed_placed w s t _ p (on_upper_two_placed w op next t.top p.0 n))
    (either_way (AfterOk (IsMadePlaced w)) (is_some (unary_in op)) _ _ (framed_placed w s t _ p (on_top_placed w op next t.top p.0 n))
    (act_or_trap_placed w next (bare_act op.byte) s t sound p n (bare_placed (w.body t.top.code) op.byte)))
perform_placed w next op (number k) s t sound p n g =
    act_or_trap_placed w next (numbered_act op.byte k) s t sound p n (numbered_placed (w.body t.top.code) op.byte k)
perform_placed w next op (target goal) s t sound p n g =
    act_or_trap_placed w next (branch_act op.byte goal) s t sound p n (branch_placed (w.body t.top.code) op.byte goal g)
perform_placed w next op (targets goals) s t sound p n g = framed_placed w s t _ p (switch_placed w goals next t.top p.0 g n)
perform_placed w next op (token v) s t sound p n g =
    act_or_trap_placed w next (token_act op.byte v) s t sound p n (token_placed (w.body t.top.code) op.byte v)
perform_placed w next op (text units) s t sound p n g =
    stored_placed w s t _ p (load_text_placed w ((w.body t.top.code).stack) next units s.store t.top p.0 n)
perform_placed w next op (raw bytes) s t sound p n g = tt

pub advance_placed : {C : Type 0} (w : World C) (s : Shared) (t : Thread C) → AreSoundNow w → IsThreadPlaced w t → AfterOk (IsMadePlaced w) (advance w s t)
unfolding advance
advance_placed w s t sound p =
    after_that (IsReadingPlaced (w.body t.top.code)) (IsMadePlaced w) (or_trap X1 (instruction_of w t.top)) _
    (or_trapped (IsReadingPlaced (w.body t.top.code)) X1 (instruction_of w t.top) (reading_placed (w.body t.top.code) t.top.offset p.0.sound))
    (λ x q. perform_placed w x.1 x.0.op x.0.arg s t sound p q.1 q.0)

-- the task after a step
abbrev pub IsStepPlaced : {C : Type 0} → World C → Stepped C → Type 0
IsStepPlaced w x = IsTaskPlaced w x.task

ended_placed : {C : Type 0} (w : World C) (line : Option ℕ) (s : Shared) (shown : Shown) (o : Option (Thread C)) → AfterSome (IsThreadPlaced w) o
    → IsStepPlaced w (stepped line (record { shared = s; thread = o; shown = shown }))
ended_placed w line s shown None p = tt
ended_placed w line s shown (Some t) p = p

result_placed : {C : Type 0} (w : World C) (line : Option ℕ) (s : Shared) (t : Thread C) (r : Result (Made C) Trap)
    → IsThreadPlaced w t → AfterOk (IsMadePlaced w) r → IsStepPlaced w (stepped_by line s t r)
result_placed w line s t (Ok m) p q = ended_placed w line m.shared m.shown m.thread q
result_placed w line s t (Err x) p q = (p.0, p.1)

flight_placed : {C : Type 0} (w : World C) (s : Shared) (x : Flown C) → IsFlownPlaced w x → IsStepPlaced w (stepped None (flight_made s x))
flight_placed w s x p = ended_placed w None s (record nothing_shown { left = x.left }) x.thread p

going_placed : {C : Type 0} (w : World C) (s : Shared) (t : Thread C) (flight : Option Flight) → AreSoundNow w → IsThreadPlaced w t → IsStepPlaced w (stepped_with w s t flight)
going_placed w s t (Some flight) sound p = flight_placed w s (fly ((w.body t.top.code).handlers) t flight) (fly_placed w t flight p)
going_placed w s t None sound p = result_placed w (line_of w t.top) s t (advance w s t) p (advance_placed w s t sound p)

pub task_placed : {C : Type 0} (w : World C) (s : Shared) (t : Task C) → AreSoundNow w → IsTaskPlaced w t → AfterSome (IsStepPlaced w) (step_task w s t)
unfolding step_task
task_placed w s (going t) sound p = going_placed w s t t.flight sound p
task_placed w s ended sound p = tt
task_placed w s (trapped x frames) sound p = tt

-- the frames of a new task
now_placed : {C : Type 0} (w : World C) (method : Token) (o : Option C) → AfterSome (λ (c : C). IsSoundCode (w.body c)) o
    → AfterSome (IsFramePlaced w) (option_map (λ code. new_frame w method code []) o)
now_placed w method None sound = tt
now_placed w method (Some code) sound = new_frame_placed w method code [] sound

constructor_placed : {C : Type 0} (w : World C) (o : Option Token) → AreSoundNow w → AfterSome (IsFramePlaced w) (option_and_then (frame_now w) o)
constructor_placed w None sound = tt
constructor_placed w (Some t) sound = now_placed w t (w.now t) (sound t)

first_placed : {C : Type 0} (w : World C) (f : Frame C) (o : Option (Frame C)) → IsFramePlaced w f → AfterSome (IsFramePlaced w) o → IsThreadPlaced w (first_thread f o)
first_placed w f None p q = (p, tt)
first_placed w f (Some g) p q = (q, (p, tt))

pub new_task_placed : {C : Type 0} (w : World C) (s : Shared) (type : Token) (f : Frame C) → AreSoundNow w → IsFramePlaced w f
    → IsThreadPlaced w (first_thread f (constructor_frame w s type))
new_task_placed w s type f sound p =
    first_placed w f (constructor_frame w s type) p
    (either_way (AfterSome (IsFramePlaced w)) (is_touched type s) None (option_and_then (frame_now w) (type_constructor w.plain type)) tt
    (constructor_placed w (type_constructor w.plain type) sound))

pub frame_now_placed : {C : Type 0} (w : World C) (method : Token) → AreSoundNow w → AfterSome (IsFramePlaced w) (frame_now w method)
frame_now_placed w method sound = now_placed w method (w.now method) (sound method)
