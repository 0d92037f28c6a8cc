-- The frames of a task that begins.
use Rattle.std.proofs.Common.{◌≡◌, ◌≤◌, ℕ, suc, ◌+◌, Bool, true, false, List, [], ◌∷◌, ◌++◌, map, reverse, length, Option, Some, None, option_map, slice_get, refl, sym, ap, ◌∙◌, arith}
use Rattle.std.proofs.lemmas.List.{length-reverse}
use Rattle.std.specs.Prelude.{nat_le, unwrap_or, if◌then◌else◌}
use Rattle.enc_base.specs.declared.token.Token.{Token}
use Rattle.enc_vm.specs.Looks.{frames_of, frames_in, frame_in}
use Rattle.enc_vm.specs.Calls.{declaring}
use Rattle.enc_frames.specs.Machine.{World, Frame, Task, going, MachineState}
use Rattle.enc_vm.specs.Step.{most_tasks, task_at, first_thread, constructor_frame, frame_now, with_task, may_spawn, begun, too_many, no_method, spawned_with, spawn_in}
use Rattle.enc_session.proofs.Looked.{frame_is}
use Rattle.enc_session.specs.Seen.{entered_if}
use Rattle.enc_session.specs.Session.{entered_event}

-- the last of a list
last_is : {A : Type 0} (xs : List A) (x : A) → slice_get (xs ++ x ∷ []) (length xs) ≡ Some x
last_is [] x = refl
last_is (y ∷ xs) x = last_is xs x

-- at most two frames
two_frames : {C : Type 0} (f : Frame C) (o : Option (Frame C)) → length (frames_of (going (first_thread f o))) ≤ 2
two_frames f None = omega arith
two_frames f (Some g) = omega arith

task_frames : {C : Type 0} (o : Option (Task C)) (t : Task C) → o ≡ Some t → length (frames_of t) ≤ 2 → length (unwrap_or (option_map frames_of o) []) ≤ 2
task_frames o t is few = rw is few

new_task : {C : Type 0} (w : World C) (method : Token) (f : Frame C) (s : MachineState C) → length (frames_in (with_task w method f s) (suc (length s.tasks))) ≤ 2
new_task w method f s =
    task_frames (task_at (with_task w method f s) (suc (length s.tasks))) _ (last_is s.tasks _) (two_frames f _)

-- what was spawned, and its number
record Spawned {C : Type 0} (w : World C) (method : Token) (s : MachineState C) (n : ℕ) (u : MachineState C) : Type 0 where
  frame : Frame C
  number : n ≡ length s.tasks + 1
  state : u ≡ with_task w method frame s

began : {C : Type 0} (w : World C) (method : Token) (f : Frame C) (s : MachineState C) (n : ℕ) (u : MachineState C)
    → begun (length s.tasks + 1) (with_task w method f s) ≡ begun n u → Spawned w method s n u
began w method f s n u h = record { frame = f; number = cc; state = cc }

by_frame : {C : Type 0} (w : World C) (method : Token) (o : Option (Frame C)) (s : MachineState C) (n : ℕ) (u : MachineState C)
    → spawned_with w method o s ≡ begun n u → Spawned w method s n u
by_frame w method None s n u h = absurd cc
by_frame w method (Some f) s n u h = began w method f s n u h

by_tests : {C : Type 0} (w : World C) (method : Token) (a b : Bool) (s : MachineState C) (n : ℕ) (u : MachineState C)
    → (if a then too_many else if b then spawned_with w method (frame_now w method) s else no_method) ≡ begun n u → Spawned w method s n u
by_tests w method true b s n u h = absurd cc
by_tests w method false true s n u h = by_frame w method (frame_now w method) s n u h
by_tests w method false false s n u h = absurd cc

frames_from : {C : Type 0} (w : World C) (method : Token) (s : MachineState C) (n : ℕ) (u : MachineState C) → Spawned w method s n u → length (frames_in u n) ≤ 2
frames_from w method s n u x =
    let number : n ≡ suc (length s.tasks) = x.number ∙ omega arith in
    rw (x.state, number) (new_task w method x.frame s)

pub few_frames : {C : Type 0} (w : World C) (method : Token) (s : MachineState C) (n : ℕ) (u : MachineState C) → spawn_in w method s ≡ begun n u → length (frames_in u n) ≤ 2
unfolding spawn_in
few_frames w method s n u h = frames_from w method s n u (by_tests w method (nat_le most_tasks (length s.tasks)) (may_spawn w.plain method) s n u h)

-- at most two that are entered
entered_two : {C : Type 0} (n : ℕ) (fs : List (Frame C)) → length fs ≤ 2
    → map (entered_event n) fs ≡ entered_if n (slice_get fs 0) ++ entered_if n (slice_get fs 1)
entered_two n [] few = refl
entered_two n (f ∷ []) few = refl
entered_two n (f ∷ g ∷ []) few = refl
entered_two n (f ∷ g ∷ h ∷ fs) few = absurd (omega arith)

back_length : {A : Type 0} (xs : List A) → length (reverse xs) ≡ length xs
back_length xs = length-reverse xs

pub entered_frames : {C : Type 0} (s : MachineState C) (n : ℕ) → length (frames_in s n) ≤ 2
    → map (entered_event n) (reverse (frames_in s n)) ≡ entered_if n (frame_in s n 0) ++ entered_if n (frame_in s n 1)
entered_frames s n few =
    entered_two n (reverse (frames_in s n)) (rw (back_length (frames_in s n)) few)
    ∙ ap (λ (o : Option (Frame _)). entered_if n o ++ entered_if n (slice_get (reverse (frames_in s n)) 1)) (sym (frame_is s n 0))
    ∙ ap (λ (o : Option (Frame _)). entered_if n (frame_in s n 0) ++ entered_if n o) (sym (frame_is s n 1))

-- the task that began stands behind the others
last_from : {C : Type 0} (w : World C) (method : Token) (s : MachineState C) (n : ℕ) (u : MachineState C) → Spawned w method s n u
    → (t : Task C) × (u.tasks ≡ s.tasks ++ t ∷ []) × (frames_in u n ≡ frames_of t)
last_from w method s n u x =
    let number : n ≡ suc (length s.tasks) = x.number ∙ omega arith in
    let t = going (first_thread x.frame (constructor_frame w s.shared (declaring w.plain method))) in
    (t, ap (λ (m : MachineState _). m.tasks) x.state, rw (x.state, number) (ap (λ (o : Option (Task _)). unwrap_or (option_map frames_of o) []) (last_is s.tasks t)))

pub begun_last : {C : Type 0} (w : World C) (method : Token) (s : MachineState C) (n : ℕ) (u : MachineState C) → spawn_in w method s ≡ begun n u
    → (t : Task C) × (u.tasks ≡ s.tasks ++ t ∷ []) × (frames_in u n ≡ frames_of t)
unfolding spawn_in
begun_last w method s n u h = last_from w method s n u (by_tests w method (nat_le most_tasks (length s.tasks)) (may_spawn w.plain method) s n u h)
