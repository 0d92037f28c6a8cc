-- Room for the value on the top of the innermost frame's stack is room for what the next step writes, whatever its
-- instruction.
use Rattle.std.proofs.Common.{◌≡◌, ◌-◌, ℕ, Bool, false, List, [], ◌∷◌, length, take, reverse, Option, Some, None, refl, sym, ap, ◌∙◌, subst, arith}
use Rattle.std.proofs.lemmas.Option.{slice_get-get_or, slice_get_within, get_or_from_slice_get}
use Rattle.std.specs.Prelude.{get_or, option_and_then, slice_get, IfSome}
use Rattle.enc_frames.proofs.Nearest.{nearest}
use Rattle.enc_frames.specs.Machine.{World, Frame, Thread, Task, going, ended, trapped, MachineState}
use Rattle.enc_frames.specs.Values.{upper}
use Rattle.enc_frames.specs.declared.handler.Flight.{Flight}
use Rattle.enc_objects.specs.Objects.{Store}
use Rattle.enc_objects.specs.declared.value.Value.{Value}
use Rattle.enc_opcodes.specs.Instruction.{Instruction}
use Rattle.enc_vm.proofs.Written.{turn_within}
use Rattle.enc_vm.specs.Looks.{innermost_of, innermost_in}
use Rattle.enc_vm.specs.Room.{WritesAtMost}
use Rattle.enc_vm.specs.RoomSeen.{IsRoomForTop, IsRoomAt, IsRoomForThread, IsRoomForTask}
use Rattle.enc_vm.specs.Step.{instruction_of, task_at}
use Rattle.enc_vm.specs.Turns.{machine_turn}
use Rattle.enc_session.specs.Room.{IsShortUnless}

-- the top of a stack that is told from the bottom up
pub top_none : (stack : List Value) → slice_get stack (length stack - 1) ≡ None → reverse stack ≡ []
top_none [] none = refl
top_none (v ∷ rest) none =
    let some : None ≡ Some (get_or (v ∷ rest) (length (v ∷ rest) - 1) v) =
    sym none ∙ slice_get-get_or (v ∷ rest) (length (v ∷ rest) - 1) v (omega arith) in absurd cc

pub top_some : (stack : List Value) (v : Value) → slice_get stack (length stack - 1) ≡ Some v → reverse stack ≡ v ∷ reverse (take (length stack - 1) stack)
top_some stack v there =
    let within = slice_get_within stack (length stack - 1) v there in
    nearest stack (length stack) v (omega (arith, within)) refl
    ∙ ap (λ (x : Value). x ∷ reverse (take (length stack - 1) stack)) (get_or_from_slice_get stack (length stack - 1) v v there)

-- room for whatever instruction
at_room : {T : Type 0} (s : Store) (n : ℕ) (stack : List Value) (o : Option (Instruction T × ℕ)) → IsRoomForTop s n (upper stack)
    → IsRoomAt s n stack o
at_room s n stack None room = tt
at_room s n stack (Some x) room = λ may. room

thread_room : {C : Type 0} (w : World C) (s : Store) (n : ℕ) (t : Thread C) (flight : Option Flight) → IsRoomForTop s n (upper t.top.stack)
    → IsRoomForThread w s n t flight
thread_room w s n t (Some flight) room = tt
thread_room w s n t None room = at_room s n t.top.stack (instruction_of w t.top) room

task_room : {C : Type 0} (w : World C) (s : Store) (n : ℕ) (o : Option (Task C))
    → IfSome (option_and_then innermost_of o) (λ (f : Frame C). IsRoomForTop s n (upper f.stack)) → IfSome o (IsRoomForTask w s n)
task_room w s n None room = tt
task_room w s n (Some (going t)) room = thread_room w s n t t.flight room
task_room w s n (Some ended) room = tt
task_room w s n (Some (trapped x frames)) room = tt

-- where no text is there
pub short_within : {C : Type 0} (w : World C) (task : ℕ) (s : MachineState C) (b : Bool) → b ≡ false
    → IfSome (innermost_in s task) (λ (f : Frame C). IsShortUnless b s.shared.store (upper f.stack)) → WritesAtMost 12 (machine_turn w task s)
short_within w task s b none room =
    turn_within w task s 12
    (task_room w s.shared.store 12 (task_at s task)
    (subst (λ (c : Bool). IfSome (innermost_in s task) (λ (f : Frame _). IsShortUnless c s.shared.store (upper f.stack))) none room))
