-- A step writes no more than what there is room for, by the value on the top of the innermost frame's stack.
use Rattle.std.proofs.Common.{◌≡◌, refl, ℕ, zero, suc, ◌+◌, ◌≤◌, ℤ, Bool, true, false, not, ◌||◌, List, length, drop, ◌++◌, Option, Some, None, Result, Ok, Err, is_some, arith, length-append}
use Rattle.std.specs.Prelude.{option_map, IfSome, if◌then◌else◌}
use Rattle.enc_base.specs.declared.token.Token.{Token}
use Rattle.enc_machine_types.specs.Outside.{outside_of}
use Rattle.enc_machine_types.specs.declared.outside.Outside.{Outside}
use Rattle.enc_machine_types.specs.declared.outside.Outside.TheVariants as outside
use Rattle.enc_objects.specs.Instructions.{binary_in, unary_in}
use Rattle.enc_objects.specs.Objects.{Store, units_held}
use Rattle.enc_objects.specs.declared.object.Content.TheVariants.{Instance, Text}
use Rattle.enc_objects.specs.declared.trap.Trap.{Trap}
use Rattle.enc_objects.specs.declared.trap.Trap.TheVariants.{X1, X2, X4, X5}
use Rattle.enc_objects.specs.declared.value.Value.{Value}
use Rattle.enc_objects.specs.declared.value.Value.TheVariants.{I4, I8, Null, Obj}
use Rattle.enc_opcodes.specs.Instruction.{Argument, nothing, number, target, targets, token, text as said, raw, Instruction}
use Rattle.enc_opcodes.specs.declared.op.Op.{Op}
use Rattle.enc_plain.specs.Module.{cells_of}
use Rattle.enc_plain.specs.Rows.{token_at}
use Rattle.enc_schema.specs.Columns as columns
use Rattle.enc_vm.proofs.Placed.{AfterOk, through, after_that, either_way}
use Rattle.enc_vm.proofs.Quiet.{ShowsWithin, IsWithin, framed_within, stored_within, threaded_within, static_within, call_within, call_virtual_within, new_object_within, return_within}
use Rattle.enc_frames.specs.Acts.{bare_act, numbered_act, branch_act, token_act}
use Rattle.enc_frames.specs.Console.{text, or_empty, line_end, digits_of_number, put_text, unit_at, run_constructor, run_outside, call_outside, is_outside_constructor, new_outside}
use Rattle.enc_frames.specs.Machine.{World, Thread, Task, going, ended, trapped, Shared, MachineState}
use Rattle.enc_frames.specs.Memory.{new_in, load_static, store_static}
use Rattle.enc_frames.specs.Results.{◌>>=◌, or_trap, ask, Made}
use Rattle.enc_vm.specs.Room.{WritesAtMost}
use Rattle.enc_vm.specs.RoomSeen.{act_of, may_write, IsRoomForValue, IsRoomForTop, IsRoomAt, IsRoomForThread, IsRoomForTask}
use Rattle.enc_vm.specs.Step.{instruction_of, stored, is_own_method, act_on, act_or_trap, perform, advance, line_of, Stepped, stepped_by, stepped_with, step_task, task_at}
use Rattle.enc_frames.specs.Straight.{load}
use Rattle.enc_vm.specs.Turns.{turn_by, machine_turn}
use Rattle.enc_frames.specs.Values.{upper, upper_two, upper_three, reference, word_of_value}
use Rattle.enc_frames.specs.declared.act.Act.{Act}
use Rattle.enc_frames.specs.declared.act.Act.TheVariants as act
use Rattle.enc_frames.specs.declared.handler.Flight.{Flight}

-- there is room for a line end
value_ends : (s : Store) (n : ℕ) (v : Value) → IsRoomForValue s n v → 1 ≤ n
value_ends s n (I4 z) fits = omega arith
value_ends s n (I8 z) fits = fits
value_ends s n Null fits = fits
value_ends s n (Obj id) fits = omega arith

line_ends : (s : Store) (n : ℕ) (top : Result Value Trap) → IsRoomForTop s n top → 1 ≤ n
line_ends s n (Ok v) fits = value_ends s n v fits
line_ends s n (Err x) fits = fits

-- for the value on the top
top_fits : (s : Store) (n : ℕ) (top : Result Value Trap) → IsRoomForTop s n top → AfterOk (IsRoomForValue s n) top
top_fits s n (Ok v) fits = fits
top_fits s n (Err x) fits = tt

-- for its text
abbrev TextFits : ℕ → Option (List ℕ) → Type 0
TextFits n o = length (or_empty o) + 1 ≤ n

held_fits : (n : ℕ) (o : Option (List ℕ)) → TextFits n o → AfterOk (TextFits n) (or_trap X4 (option_map Some o))
held_fits n (Some units) fits = fits
held_fits n None fits = tt

text_fits : (s : Store) (n : ℕ) (v : Value) → IsRoomForValue s n v → AfterOk (TextFits n) (text s v)
text_fits s n (I4 z) fits = tt
text_fits s n (I8 z) fits = tt
text_fits s n Null fits = fits
text_fits s n (Obj id) fits = held_fits n (units_held s id) fits

-- for its digits
abbrev NumberFits : ℕ → ℤ → Type 0
NumberFits n z = length (digits_of_number z) + 1 ≤ n

number_fits : (s : Store) (n : ℕ) (v : Value) → IsRoomForValue s n v → AfterOk (NumberFits n) (word_of_value v)
number_fits s n (I4 z) fits = fits
number_fits s n (I8 z) fits = tt
number_fits s n Null fits = tt
number_fits s n (Obj id) fits = tt

-- and a line end behind
line_fits : (n : ℕ) (units : List ℕ) → length units + 1 ≤ n → length (units ++ line_end) ≤ n
line_fits n units fits = omega (arith, length-append units line_end)

-- members outside
put_text_within : {C : Type 0} (n next : ℕ) (units : List ℕ) (rest : List Value) (s : Shared) (t : Thread C) → AfterOk (IsWithin n) (put_text next units rest s t)
put_text_within n next units rest s t = through (IsWithin n) (new_in (Text units) (length units) s.store) _ (λ o. tt)

constructor_within : {C : Type 0} (n : ℕ) (asked : Bool) (next : ℕ) (s : Shared) (t : Thread C) → AfterOk (IsWithin n) (run_constructor asked next s t)
constructor_within n asked next s t =
    through (IsWithin n) (upper t.top.stack) _ (λ v. through (IsWithin n) (reference v) _ (λ r. through (IsWithin n) (ask X5 (not asked || is_some r)) _ (λ _. tt)))

outside_within : {C : Type 0} (n : ℕ) (o : Outside) (asked : Bool) (next : ℕ) (s : Shared) (t : Thread C)
    → IsRoomForTop s.store n (upper t.top.stack) → AfterOk (IsWithin n) (run_outside o asked next s t)
unfolding run_outside
outside_within n outside.NewObject asked next s t room = constructor_within n asked next s t
outside_within n outside.NewException asked next s t room = constructor_within n asked next s t
outside_within n outside.WriteLine asked next s t room = line_ends s.store n (upper t.top.stack) room
outside_within n outside.WriteLineText asked next s t room =
    after_that (IsRoomForValue s.store n) (IsWithin n) (upper t.top.stack) _ (top_fits s.store n (upper t.top.stack) room) (λ v fits.
    after_that (TextFits n) (IsWithin n) (text s.store v) _ (text_fits s.store n v fits) (λ o short. line_fits n (or_empty o) short))
outside_within n outside.WriteLineNumber asked next s t room =
    after_that (IsRoomForValue s.store n) (IsWithin n) (upper t.top.stack) _ (top_fits s.store n (upper t.top.stack) room) (λ v fits.
    after_that (NumberFits n) (IsWithin n) (word_of_value v) _ (number_fits s.store n v fits) (λ z short. line_fits n (digits_of_number z) short))
outside_within n outside.WriteText asked next s t room =
    after_that (IsRoomForValue s.store n) (IsWithin n) (upper t.top.stack) _ (top_fits s.store n (upper t.top.stack) room) (λ v fits.
    after_that (TextFits n) (IsWithin n) (text s.store v) _ (text_fits s.store n v fits) (λ o short. omega arith))
outside_within n outside.ConcatTwo asked next s t room =
    through (IsWithin n) (upper_two t.top.stack) _ (λ v. through (IsWithin n) (text s.store v.0) _ (λ a. through (IsWithin n) (text s.store v.1) _ (λ b.
    put_text_within n next (or_empty a ++ or_empty b) (drop 2 t.top.stack) s t)))
outside_within n outside.ConcatThree asked next s t room =
    through (IsWithin n) (upper_three t.top.stack) _ (λ v. through (IsWithin n) (text s.store v.0) _ (λ a. through (IsWithin n) (text s.store v.1) _ (λ b.
    through (IsWithin n) (text s.store v.2) _ (λ c. put_text_within n next (or_empty a ++ or_empty b ++ or_empty c) (drop 3 t.top.stack) s t))))
outside_within n outside.AreEqual asked next s t room =
    through (IsWithin n) (upper_two t.top.stack) _ (λ v. through (IsWithin n) (text s.store v.0) _ (λ a. through (IsWithin n) (text s.store v.1) _ (λ b. tt)))
outside_within n outside.TextLength asked next s t room =
    through (IsWithin n) (upper t.top.stack) _ (λ v. through (IsWithin n) (text s.store v) _ (λ o. through (IsWithin n) (or_trap X5 o) _ (λ units. tt)))
outside_within n outside.TextUnit asked next s t room =
    through (IsWithin n) (upper_two t.top.stack) _ (λ v. through (IsWithin n) (text s.store v.0) _ (λ o. through (IsWithin n) (word_of_value v.1) _ (λ i.
    through (IsWithin n) (or_trap X5 o) _ (λ units. through (IsWithin n) (unit_at units i) _ (λ u. tt)))))

call_outside_within : {C : Type 0} (n : ℕ) (w : World C) (asked : Bool) (next : ℕ) (member : Token) (s : Shared) (t : Thread C)
    → IsRoomForTop s.store n (upper t.top.stack) → AfterOk (IsWithin n) (call_outside w asked next member s t)
unfolding call_outside
call_outside_within n w asked next member s t room =
    through (IsWithin n) (or_trap X2 (outside_of w.plain member)) _ (λ o. outside_within n o asked next s t room)

new_outside_within : {C : Type 0} (n : ℕ) (w : World C) (next : ℕ) (member : Token) (s : Shared) (t : Thread C) → AfterOk (IsWithin n) (new_outside w next member s t)
unfolding new_outside
new_outside_within n w next member s t =
    through (IsWithin n) (or_trap X2 (outside_of w.plain member)) _ (λ o.
    through (IsWithin n) (ask X2 (is_outside_constructor o)) _ (λ _.
    through (IsWithin n) (new_in (Instance (token_at (cells_of w.plain) member columns.member_ref_class)) 0 s.store) _ (λ x.
    through (IsWithin n) (load ((w.body t.top.code).stack) next (Obj x.1) t.top) _ (λ f. tt))))

-- room where it is asked for
abbrev IsRoomWhere : {C : Type 0} → ℕ → Bool → Shared → Thread C → Type 0
IsRoomWhere n asked s t = asked ≡ true → IsRoomForTop s.store n (upper t.top.stack)

either_by : {A : Type 0} (P : A → Type 0) (b : Bool) (x y : A) → P x → (not b ≡ true → P y) → P (if b then x else y)
either_by P true x y hx hy = hx
either_by P false x y hx hy = hy refl

-- instructions
act_within : {C : Type 0} (n : ℕ) (w : World C) (next : ℕ) (a : Act) (s : Shared) (t : Thread C)
    → IsRoomWhere n (may_write (Some a)) s t → AfterOk (IsWithin n) (act_on w next a s t)
unfolding act_on
act_within n w next (act.Frame a) s t room = framed_within n s t _
act_within n w next (act.Object a) s t room = stored_within n s t _
act_within n w next act.Return s t room = return_within n w s t
act_within n w next (act.Call method) s t room =
    either_by (AfterOk (IsWithin n)) (is_own_method method) _ _ (call_within n w next method s t)
    (λ outside. call_outside_within n w false next method s t (room outside))
act_within n w next (act.CallVirtual method) s t room =
    either_by (AfterOk (IsWithin n)) (is_own_method method) _ _ (call_virtual_within n w next method s t)
    (λ outside. call_outside_within n w true next method s t (room outside))
act_within n w next (act.NewObject method) s t room =
    either_way (AfterOk (IsWithin n)) (is_own_method method) _ _ (new_object_within n w next method s t) (new_outside_within n w next method s t)
act_within n w next (act.LoadStatic field) s t room =
    static_within n w s t field (λ k x. stored x t (load_static k ((w.body t.top.code).stack) next field x.store t.top)) (λ k x. stored_within n x t _)
act_within n w next (act.StoreStatic field) s t room =
    static_within n w s t field (λ k x. stored x t (store_static k next field x.store t.top)) (λ k x. stored_within n x t _)
act_within n w next act.Throw s t room = threaded_within n s _
act_within n w next act.EndFinally s t room = threaded_within n s _

act_or_trap_within : {C : Type 0} (n : ℕ) (w : World C) (next : ℕ) (a : Option Act) (s : Shared) (t : Thread C)
    → IsRoomWhere n (may_write a) s t → AfterOk (IsWithin n) (act_or_trap w next a s t)
act_or_trap_within n w next None s t room = tt
act_or_trap_within n w next (Some a) s t room = act_within n w next a s t room

perform_within : {C : Type 0} (n : ℕ) (w : World C) (next : ℕ) (op : Op) (a : Argument (List ℕ)) (s : Shared) (t : Thread C)
    → IsRoomWhere n (may_write (act_of op a)) s t → AfterOk (IsWithin n) (perform w next op a s t)
unfolding perform
perform_within n w next op nothing s t room =
    either_way (AfterOk (IsWithin n)) (is_some (binary_in op)) _ _ (framed_within n s t _)
    (either_way (AfterOk (IsWithin n)) (is_some (unary_in op)) _ _ (framed_within n s t _) (act_or_trap_within n w next (bare_act op.byte) s t room))
perform_within n w next op (number k) s t room = act_or_trap_within n w next (numbered_act op.byte k) s t room
perform_within n w next op (target goal) s t room = act_or_trap_within n w next (branch_act op.byte goal) s t room
perform_within n w next op (targets goals) s t room = framed_within n s t _
perform_within n w next op (token v) s t room = act_or_trap_within n w next (token_act op.byte v) s t room
perform_within n w next op (said units) s t room = stored_within n s t _
perform_within n w next op (raw bytes) s t room = tt

at_within : {C : Type 0} (n : ℕ) (w : World C) (s : Shared) (t : Thread C) (o : Option (Instruction (List ℕ) × ℕ)) → IsRoomAt s.store n t.top.stack o
    → AfterOk (IsWithin n) (or_trap X1 o >>= λ x. perform w x.1 x.0.op x.0.arg s t)
at_within n w s t None room = tt
at_within n w s t (Some x) room = perform_within n w x.1 x.0.op x.0.arg s t room

advance_within : {C : Type 0} (n : ℕ) (w : World C) (s : Shared) (t : Thread C) → IsRoomAt s.store n t.top.stack (instruction_of w t.top)
    → AfterOk (IsWithin n) (advance w s t)
unfolding advance
advance_within n w s t room = at_within n w s t (instruction_of w t.top) room

-- a step of a task
abbrev StepsWithin : {C : Type 0} → ℕ → Stepped C → Type 0
StepsWithin n x = ShowsWithin n x.shown

result_within : {C : Type 0} (n : ℕ) (line : Option ℕ) (s : Shared) (t : Thread C) (r : Result (Made C) Trap) → AfterOk (IsWithin n) r → StepsWithin n (stepped_by line s t r)
result_within n line s t (Ok m) within = within
result_within n line s t (Err x) within = tt

going_within : {C : Type 0} (n : ℕ) (w : World C) (s : Shared) (t : Thread C) (flight : Option Flight)
    → IsRoomForThread w s.store n t flight → StepsWithin n (stepped_with w s t flight)
going_within n w s t (Some flight) room = tt
going_within n w s t None room = result_within n (line_of w t.top) s t (advance w s t) (advance_within n w s t room)

-- and the turn of one that is there
task_within : {C : Type 0} (n : ℕ) (w : World C) (i : ℕ) (s : MachineState C) (t : Task C)
    → IsRoomForTask w s.shared.store n t → WritesAtMost n (turn_by i s (Some (step_task w s.shared t)))
unfolding step_task
task_within n w i s (going t) room = going_within n w s.shared t t.flight room
task_within n w i s ended room = tt
task_within n w i s (trapped x frames) room = tt

one_within : {C : Type 0} (n : ℕ) (w : World C) (i : ℕ) (s : MachineState C) (o : Option (Task C))
    → IfSome o (IsRoomForTask w s.shared.store n) → WritesAtMost n (turn_by i s (option_map (λ (t : Task C). step_task w s.shared t) o))
one_within n w i s None room = tt
one_within n w i s (Some t) room = task_within n w i s t room

pub turn_within : {C : Type 0} (w : World C) (task : ℕ) (s : MachineState C) (n : ℕ)
    → IfSome (task_at s task) (IsRoomForTask w s.shared.store n) → WritesAtMost n (machine_turn w task s)
unfolding machine_turn
turn_within w zero s n room = tt
turn_within w (suc i) s n room = one_within n w i s (task_at s (suc i)) room
