-- A step does the same, and so does a spawn, whatever the codes of frames are: in worlds that agree along a function on codes.
use Rattle.std.proofs.Common.{◌≡◌, ℕ, ◌+◌, true, false, List, [], ◌∷◌, ◌++◌, map, length, Option, Some, None, Result, Ok, Err, refl, sym, ap, ap₂, ◌∙◌, option_map, option_and_then, is_some, if◌then◌else◌, nat_le}
use Rattle.std.proofs.lemmas.List.{length-map, map-append}
use Rattle.enc_base.specs.declared.token.Token.{Token}
use Rattle.enc_machine_types.specs.Members.{type_constructor}
use Rattle.enc_machine_types.specs.Types.{type_kind}
use Rattle.enc_objects.specs.Instructions.{binary_in, unary_in}
use Rattle.enc_objects.specs.Objects.{Store}
use Rattle.enc_objects.specs.declared.kind.Kind.{Kind}
use Rattle.enc_objects.specs.declared.trap.Trap.{Trap}
use Rattle.enc_objects.specs.declared.trap.Trap.TheVariants.{X1, X2}
use Rattle.enc_opcodes.specs.Instruction.{Argument, nothing, number, target, targets, token, text, raw}
use Rattle.enc_opcodes.specs.declared.op.Op.{Op}
use Rattle.enc_vm.proofs.CallsMapped.{new_frame_same, touch_same, call_same, call_virtual_same, new_object_same, return_same}
use Rattle.enc_vm.proofs.ConsoleMapped.{call_outside_same, new_outside_same}
use Rattle.enc_vm.proofs.FramesMapped.{load_same, load_argument_same, load_local_same, store_argument_same, store_local_same, duplicate_same, discard_same, branch_if_same, branch_by_same, switch_same, on_upper_two_same, on_top_same}
use Rattle.enc_vm.proofs.HandlersMapped.{leave_same, throw_same, end_finally_same, fly_same}
use Rattle.enc_vm.proofs.Mapped.{frame_by, thread_by, task_by, state_by, pair_by, made_with_codes, stepped_with_codes, spawning_with_codes, result_by, before, after, along, via, either, Agree, is_before, is_after}
use Rattle.enc_vm.proofs.ObjectsMapped.{load_text_same, load_field_same, store_field_same, load_static_same, store_static_same, new_array_same, array_length_same, load_element_same, store_element_same, cast_same, instance_same}
use Rattle.enc_frames.specs.Acts.{bare_act, numbered_act, branch_act, token_act}
use Rattle.enc_vm.specs.Calls.{declaring, is_touched, with_touched, new_frame}
use Rattle.enc_frames.specs.Machine.{World, Frame, Thread, Task, going, ended, trapped, Shared, MachineState}
use Rattle.enc_frames.specs.Memory.{named_field, load_static, store_static}
use Rattle.enc_frames.specs.Results.{or_trap, Shown, Made}
use Rattle.enc_vm.specs.Step.{instruction_of, framed, stored, threaded, on_static, is_own_method, act_on, act_or_trap, bare_on, perform, advance, line_of, stepped, stepped_by, flight_made, stepped_with, step_task, may_spawn, begun, too_many, no_method, most_tasks, first_thread, frame_now, constructor_frame, spawned_with, spawn_in}
use Rattle.enc_frames.specs.FrameActs.{frame_act, object_act}
use Rattle.enc_frames.specs.Straight.{Framed, argument_kind, local_kind}
use Rattle.enc_frames.specs.Memory.{Stored}
use Rattle.enc_frames.specs.declared.act.Act.{Act}
use Rattle.enc_frames.specs.declared.act.Act.TheVariants as act
use Rattle.enc_frames.specs.declared.act.FrameAct.{FrameAct}
use Rattle.enc_frames.specs.declared.act.FrameAct.TheVariants as frame
use Rattle.enc_frames.specs.declared.act.ObjectAct.{ObjectAct}
use Rattle.enc_frames.specs.declared.act.ObjectAct.TheVariants as object
use Rattle.enc_frames.specs.declared.handler.Flight.{Flight}

-- from a frame, from the store and a frame, and from frames to what the step makes
framed_same : {C D : Type 0} (h : C → D) (s : Shared) (t : Thread C) (q : Framed D) (r : Framed C)
    → q ≡ result_by (frame_by h) r → framed s (thread_by h t) q ≡ result_by (made_with_codes h) (framed s t r)
framed_same h s t q r same = via (frame_by h) (made_with_codes h) q r _ _ same (λ f. refl)

stored_same : {C D : Type 0} (h : C → D) (s : Shared) (t : Thread C) (q : Stored D) (r : Stored C)
    → q ≡ result_by (pair_by h) r → stored s (thread_by h t) q ≡ result_by (made_with_codes h) (stored s t r)
stored_same h s t q r same = via (pair_by h) (made_with_codes h) q r _ _ same (λ p. refl)

threaded_same : {C D : Type 0} (h : C → D) (s : Shared) (q : Result (Thread D) Trap) (r : Result (Thread C) Trap)
    → q ≡ result_by (thread_by h) r → threaded s q ≡ result_by (made_with_codes h) (threaded s r)
threaded_same h s q r same = via (thread_by h) (made_with_codes h) q r _ _ same (λ t. refl)

-- what an instruction does to its frame
argument_kind_same : {C D : Type 0} (h : C → D) (u : World D) (f : Frame C) (n : ℕ) → argument_kind u.plain (frame_by h f) n ≡ argument_kind u.plain f n
unfolding argument_kind
argument_kind_same h u f n = refl

local_kind_same : {C D : Type 0} (h : C → D) (u : World D) (locals : Token) (f : Frame C) (n : ℕ)
    → local_kind u.plain locals (frame_by h f) n ≡ local_kind u.plain locals f n
unfolding local_kind
local_kind_same h u locals f n = refl

frame_act_same : {C D : Type 0} (h : C → D) (u : World D) (now : Token → Option C) (next : ℕ) (a : FrameAct) (f : Frame C)
    → frame_act (after h u now) next a (frame_by h f) ≡ result_by (frame_by h) (frame_act (before h u now) next a f)
unfolding frame_act argument_kind local_kind
frame_act_same h u now next frame.Nothing f = refl
frame_act_same h u now next (frame.LoadArg n) f = load_argument_same h ((u.body (h f.code)).stack) next n f
frame_act_same h u now next (frame.StoreArg n) f = store_argument_same h (argument_kind u.plain f n) next n f
frame_act_same h u now next (frame.LoadLocal n) f = load_local_same h ((u.body (h f.code)).stack) next n f
frame_act_same h u now next (frame.StoreLocal n) f = store_local_same h (local_kind u.plain ((u.body (h f.code)).locals) f n) next n f
frame_act_same h u now next (frame.Constant v) f = load_same h ((u.body (h f.code)).stack) next v f
frame_act_same h u now next frame.Duplicate f = duplicate_same h ((u.body (h f.code)).stack) next f
frame_act_same h u now next frame.Discard f = discard_same h next f
frame_act_same h u now next (frame.Branch goal) f = refl
frame_act_same h u now next (frame.BranchIf wanted goal) f = branch_if_same h wanted goal next f
frame_act_same h u now next (frame.BranchBy test goal) f = branch_by_same h test goal next f
frame_act_same h u now next (frame.Leave goal) f = ap (λ (g : Frame _). Ok g) (leave_same h ((u.body (h f.code)).handlers) goal f)

-- and what one does to objects and its frame
object_act_same : {C D : Type 0} (h : C → D) (u : World D) (now : Token → Option C) (next : ℕ) (a : ObjectAct) (s : Store) (f : Frame C)
    → object_act (after h u now) next a s (frame_by h f) ≡ result_by (pair_by h) (object_act (before h u now) next a s f)
unfolding object_act
object_act_same h u now next (object.LoadField field) s f = along (pair_by h) (named_field u.plain field) _ _ (λ k. load_field_same h k next field s f)
object_act_same h u now next (object.StoreField field) s f = along (pair_by h) (named_field u.plain field) _ _ (λ k. store_field_same h k next field s f)
object_act_same h u now next (object.NewArray type) s f = along (pair_by h) (or_trap X2 (type_kind u.plain type)) _ _ (λ k. new_array_same h k next s f)
object_act_same h u now next object.Length s f = array_length_same h next s f
object_act_same h u now next (object.LoadElement k) s f = load_element_same h k next s f
object_act_same h u now next (object.LoadElementOf type) s f = along (pair_by h) (or_trap X2 (type_kind u.plain type)) _ _ (λ k. load_element_same h k next s f)
object_act_same h u now next (object.StoreElement k) s f = store_element_same h k next s f
object_act_same h u now next (object.StoreElementOf type) s f = along (pair_by h) (or_trap X2 (type_kind u.plain type)) _ _ (λ k. store_element_same h k next s f)
object_act_same h u now next (object.Cast type) s f = cast_same h u.plain next type s f
object_act_same h u now next (object.IsInstance type) s f = instance_same h u.plain next type s f

static_same : {C D : Type 0} (h : C → D) (u : World D) (now : Token → Option C) (s : Shared) (t : Thread C) (field : Token)
    (go : Kind → Shared → Result (Made C) Trap) (on : Kind → Shared → Result (Made D) Trap)
    → ((k : Kind) (x : Shared) → on k x ≡ result_by (made_with_codes h) (go k x))
    → on_static (after h u now) s (thread_by h t) field on ≡ result_by (made_with_codes h) (on_static (before h u now) s t field go)
static_same h u now s t field go on same =
    along (made_with_codes h) (named_field u.plain field) _ _ (λ k. touch_same h u now s t (declaring u.plain field) (go k) (on k) (same k))

act_same : {C D : Type 0} (h : C → D) (u : World D) (now : Token → Option C) (next : ℕ) (a : Act) (s : Shared) (t : Thread C)
    → act_on (after h u now) next a s (thread_by h t) ≡ result_by (made_with_codes h) (act_on (before h u now) next a s t)
unfolding act_on
act_same h u now next (act.Frame a) s t = framed_same h s t _ _ (frame_act_same h u now next a t.top)
act_same h u now next (act.Object a) s t = stored_same h s t _ _ (object_act_same h u now next a s.store t.top)
act_same h u now next act.Return s t = return_same h u now s t
act_same h u now next (act.Call method) s t =
    either (result_by (made_with_codes h)) (is_own_method method) _ _ _ _ (call_same h u now next method s t) (call_outside_same h u now false next method s t)
act_same h u now next (act.CallVirtual method) s t =
    either (result_by (made_with_codes h)) (is_own_method method) _ _ _ _ (call_virtual_same h u now next method s t) (call_outside_same h u now true next method s t)
act_same h u now next (act.NewObject method) s t =
    either (result_by (made_with_codes h)) (is_own_method method) _ _ _ _ (new_object_same h u now next method s t) (new_outside_same h u now next method s t)
act_same h u now next (act.LoadStatic field) s t =
    static_same h u now s t field
    (λ k x. stored x t (load_static k ((u.body (h t.top.code)).stack) next field x.store t.top))
    (λ k x. stored x (thread_by h t) (load_static k ((u.body (h t.top.code)).stack) next field x.store (frame_by h t.top)))
    (λ k x. stored_same h x t _ _ (load_static_same h k ((u.body (h t.top.code)).stack) next field x.store t.top))
act_same h u now next (act.StoreStatic field) s t =
    static_same h u now s t field
    (λ k x. stored x t (store_static k next field x.store t.top))
    (λ k x. stored x (thread_by h t) (store_static k next field x.store (frame_by h t.top)))
    (λ k x. stored_same h x t _ _ (store_static_same h k next field x.store t.top))
act_same h u now next act.Throw s t = threaded_same h s _ _ (throw_same h u now s.store t)
act_same h u now next act.EndFinally s t = threaded_same h s _ _ (end_finally_same h ((u.body (h t.top.code)).handlers) t)

act_or_trap_same : {C D : Type 0} (h : C → D) (u : World D) (now : Token → Option C) (next : ℕ) (a : Option Act) (s : Shared) (t : Thread C)
    → act_or_trap (after h u now) next a s (thread_by h t) ≡ result_by (made_with_codes h) (act_or_trap (before h u now) next a s t)
act_or_trap_same h u now next None s t = refl
act_or_trap_same h u now next (Some a) s t = act_same h u now next a s t

bare_same : {C D : Type 0} (h : C → D) (u : World D) (now : Token → Option C) (next : ℕ) (op : Op) (s : Shared) (t : Thread C)
    → bare_on (after h u now) next op s (thread_by h t) ≡ result_by (made_with_codes h) (bare_on (before h u now) next op s t)
bare_same h u now next op s t =
    either (result_by (made_with_codes h)) (is_some (binary_in op)) _ _ _ _ (framed_same h s t _ _ (on_upper_two_same h op next t.top))
    (either (result_by (made_with_codes h)) (is_some (unary_in op)) _ _ _ _ (framed_same h s t _ _ (on_top_same h op next t.top))
    (act_or_trap_same h u now next (bare_act op.byte) s t))

perform_same : {C D : Type 0} (h : C → D) (u : World D) (now : Token → Option C) (next : ℕ) (op : Op) (a : Argument (List ℕ)) (s : Shared) (t : Thread C)
    → perform (after h u now) next op a s (thread_by h t) ≡ result_by (made_with_codes h) (perform (before h u now) next op a s t)
unfolding perform
perform_same h u now next op nothing s t = bare_same h u now next op s t
perform_same h u now next op (number n) s t = act_or_trap_same h u now next (numbered_act op.byte n) s t
perform_same h u now next op (target goal) s t = act_or_trap_same h u now next (branch_act op.byte goal) s t
perform_same h u now next op (targets goals) s t = framed_same h s t _ _ (switch_same h goals next t.top)
perform_same h u now next op (token v) s t = act_or_trap_same h u now next (token_act op.byte v) s t
perform_same h u now next op (text units) s t = stored_same h s t _ _ (load_text_same h ((u.body (h t.top.code)).stack) next units s.store t.top)
perform_same h u now next op (raw bytes) s t = refl

advance_same : {C D : Type 0} (h : C → D) (u : World D) (now : Token → Option C) (s : Shared) (t : Thread C)
    → advance (after h u now) s (thread_by h t) ≡ result_by (made_with_codes h) (advance (before h u now) s t)
unfolding advance
advance_same h u now s t =
    along (made_with_codes h) (or_trap X1 (instruction_of (before h u now) t.top)) _ _ (λ x. perform_same h u now x.1 x.0.op x.0.arg s t)

-- the end of a step
ended_same : {C D : Type 0} (h : C → D) (line : Option ℕ) (s : Shared) (shown : Shown) (o : Option (Thread C))
    → stepped line (record { shared = s; thread = option_map (thread_by h) o; shown = shown }) ≡ stepped_with_codes h (stepped line (record { shared = s; thread = o; shown = shown }))
ended_same h line s shown None = refl
ended_same h line s shown (Some t) = refl

result_same : {C D : Type 0} (h : C → D) (line : Option ℕ) (s : Shared) (t : Thread C) (r : Result (Made C) Trap)
    → stepped_by line s (thread_by h t) (result_by (made_with_codes h) r) ≡ stepped_with_codes h (stepped_by line s t r)
result_same h line s t (Ok m) = ended_same h line m.shared m.shown m.thread
result_same h line s t (Err x) = refl

going_same : {C D : Type 0} (h : C → D) (u : World D) (now : Token → Option C) (s : Shared) (t : Thread C) (flight : Option Flight)
    → stepped_with (after h u now) s (thread_by h t) flight ≡ stepped_with_codes h (stepped_with (before h u now) s t flight)
going_same h u now s t (Some flight) =
    ap (λ x. stepped None (flight_made s x)) (fly_same h ((u.body (h t.top.code)).handlers) t flight)
    ∙ ended_same h None s _ _
going_same h u now s t None =
    ap (stepped_by (line_of (before h u now) t.top) s (thread_by h t)) (advance_same h u now s t)
    ∙ result_same h (line_of (before h u now) t.top) s t (advance (before h u now) s t)

task_same : {C D : Type 0} (h : C → D) (u : World D) (now : Token → Option C) (s : Shared) (t : Task C)
    → step_task (after h u now) s (task_by h t) ≡ option_map (stepped_with_codes h) (step_task (before h u now) s t)
unfolding step_task
task_same h u now s (going t) = ap (λ x. Some x) (going_same h u now s t t.flight)
task_same h u now s ended = refl
task_same h u now s (trapped x frames) = refl

-- a step in worlds that agree
pub step_same : {C D : Type 0} (h : C → D) (w : World C) (u : World D) (s : Shared) (t : Task C)
    → Agree h w u → step_task u s (task_by h t) ≡ option_map (stepped_with_codes h) (step_task w s t)
step_same h w u s t agree =
    ap (λ (x : World _). step_task x s (task_by h t)) (is_after h w u agree)
    ∙ task_same h u w.now s t
    ∙ ap (λ (x : World _). option_map (stepped_with_codes h) (step_task x s t)) (is_before h w u agree)

-- a new task
frame_by_now : {C D : Type 0} (h : C → D) (u : World D) (now : Token → Option C) (method : Token) (o : Option C)
    → option_map (λ code. new_frame (after h u now) method code []) (option_map h o) ≡ option_map (frame_by h) (option_map (λ code. new_frame (before h u now) method code []) o)
frame_by_now h u now method None = refl
frame_by_now h u now method (Some code) = ap (λ (f : Frame _). Some f) (new_frame_same h u now method code [])

now_same : {C D : Type 0} (h : C → D) (u : World D) (now : Token → Option C) (method : Token)
    → frame_now (after h u now) method ≡ option_map (frame_by h) (frame_now (before h u now) method)
now_same h u now method = frame_by_now h u now method (now method)

constructor_of : {C D : Type 0} (h : C → D) (u : World D) (now : Token → Option C) (o : Option Token)
    → option_and_then (frame_now (after h u now)) o ≡ option_map (frame_by h) (option_and_then (frame_now (before h u now)) o)
constructor_of h u now None = refl
constructor_of h u now (Some t) = now_same h u now t

constructor_frame_same : {C D : Type 0} (h : C → D) (u : World D) (now : Token → Option C) (s : Shared) (type : Token)
    → constructor_frame (after h u now) s type ≡ option_map (frame_by h) (constructor_frame (before h u now) s type)
constructor_frame_same h u now s type =
    either (option_map (frame_by h)) (is_touched type s) _ _ _ _ refl (constructor_of h u now (type_constructor u.plain type))

first_same : {C D : Type 0} (h : C → D) (f : Frame C) (o : Option (Frame C)) → first_thread (frame_by h f) (option_map (frame_by h) o) ≡ thread_by h (first_thread f o)
first_same h f None = refl
first_same h f (Some g) = refl

new_task_same : {C D : Type 0} (h : C → D) (u : World D) (now : Token → Option C) (s : Shared) (type : Token) (f : Frame C)
    → first_thread (frame_by h f) (constructor_frame (after h u now) s type) ≡ thread_by h (first_thread f (constructor_frame (before h u now) s type))
new_task_same h u now s type f =
    ap (first_thread (frame_by h f)) (constructor_frame_same h u now s type) ∙ first_same h f (constructor_frame (before h u now) s type)

tasks_same : {C D : Type 0} (h : C → D) (u : World D) (now : Token → Option C) (s : MachineState C) (type : Token) (f : Frame C)
    → map (task_by h) s.tasks ++ going (first_thread (frame_by h f) (constructor_frame (after h u now) s.shared type)) ∷ []
    ≡ map (task_by h) (s.tasks ++ going (first_thread f (constructor_frame (before h u now) s.shared type)) ∷ [])
tasks_same h u now s type f =
    ap (λ (t : Thread _). map (task_by h) s.tasks ++ going t ∷ []) (new_task_same h u now s.shared type f)
    ∙ sym (map-append (task_by h) s.tasks (going (first_thread f (constructor_frame (before h u now) s.shared type)) ∷ []))

spawned_same : {C D : Type 0} (h : C → D) (u : World D) (now : Token → Option C) (method : Token) (s : MachineState C) (o : Option (Frame C))
    → spawned_with (after h u now) method (option_map (frame_by h) o) (state_by h s) ≡ spawning_with_codes h (spawned_with (before h u now) method o s)
spawned_same h u now method s None = refl
spawned_same h u now method s (Some f) =
    ap₂ (λ (n : ℕ) (x : MachineState _). begun (n + 1) x) (length-map s.tasks (task_by h))
    (ap (λ (ts : List (Task _)). record { shared = with_touched (declaring u.plain method) s.shared; tasks = ts }) (tasks_same h u now s (declaring u.plain method) f))

begin_same : {C D : Type 0} (h : C → D) (u : World D) (now : Token → Option C) (method : Token) (s : MachineState C)
    → spawn_in (after h u now) method (state_by h s) ≡ spawning_with_codes h (spawn_in (before h u now) method s)
unfolding spawn_in
begin_same h u now method s =
    ap (λ (n : ℕ). if nat_le most_tasks n then too_many
    else if may_spawn u.plain method then spawned_with (after h u now) method (frame_now (after h u now) method) (state_by h s)
    else no_method) (length-map s.tasks (task_by h))
    ∙ either (spawning_with_codes h) (nat_le most_tasks (length s.tasks)) _ _ _ _ refl
    (either (spawning_with_codes h) (may_spawn u.plain method) _ _ _ _
    (ap (λ (o : Option (Frame _)). spawned_with (after h u now) method o (state_by h s)) (now_same h u now method) ∙ spawned_same h u now method s (frame_now (before h u now) method))
    refl)

-- a spawn in worlds that agree
pub spawn_same : {C D : Type 0} (h : C → D) (w : World C) (u : World D) (method : Token) (s : MachineState C)
    → Agree h w u → spawn_in u method (state_by h s) ≡ spawning_with_codes h (spawn_in w method s)
spawn_same h w u method s agree =
    ap (λ (x : World _). spawn_in x method (state_by h s)) (is_after h w u agree)
    ∙ begin_same h u w.now method s
    ∙ ap (λ (x : World _). spawning_with_codes h (spawn_in x method s)) (is_before h w u agree)
