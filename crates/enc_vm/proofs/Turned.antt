-- The machine behind a step of one of its tasks.
use Rattle.std.proofs.Common.{◌≡◌, ℕ, zero, suc, ◌+◌, List, [], ◌∷◌, Option, Some, None, Result, Ok, Err, refl, sym, ap, ◌∙◌, arith}
use Rattle.std.specs.Prelude.{option_map, slice_get, slice_set}
use Rattle.std.specs.declared.alloc.AllocError.{AllocError}
use Rattle.enc_versions.specs.Version.{Version}
use Rattle.enc_vm.specs.EffectsSeen.{ended_as, Steps}
use Rattle.enc_frames.specs.Machine.{Task, Shared, MachineState, World}
use Rattle.enc_vm.specs.Step.{Ending, ran, done, stopped, Stepped, step_task}
use Rattle.enc_vm.specs.Turns.{absent, went, turn_by, machine_turn, shown_in, IsTurn}
use Rattle.enc_vm.specs.declared.ends.StepEnd.{StepEnd}
use Rattle.enc_vm.specs.declared.ends.StepEnd.TheVariants as end
use Rattle.enc_vm.specs.declared.seen.Seen.{Seen}

set_same : {A : Type 0} (xs : List A) (i : ℕ) (x : A) → slice_get xs i ≡ Some x → slice_set xs i x ≡ xs
set_same [] i x h = refl
set_same (y ∷ ys) zero x h = ap (λ (z : _). z ∷ ys) (sym (some_is y x h))
  where
    some_is : {A : Type 0} (a b : A) → Some a ≡ Some b → a ≡ b
    some_is a b e = cc
set_same (y ∷ ys) (suc i) x h = ap (λ (l : List _). y ∷ l) (set_same ys i x h)

-- no task has the number
pub none_at : (w : World Version) (n : ℕ) (s : MachineState Version) → n ≡ 0 → machine_turn w n s ≡ absent
unfolding machine_turn
none_at w n s is = ap (λ (k : ℕ). machine_turn w k s) is

turn_at : (w : World Version) (n i : ℕ) (s : MachineState Version) (o : Option (Task Version)) → n ≡ i + 1 → slice_get s.tasks i ≡ o
    → machine_turn w n s ≡ turn_by i s (option_map (λ (t : Task Version). step_task w s.shared t) o)
unfolding machine_turn
turn_at w n i s o is there =
    let next : n ≡ suc i = omega (arith, is) in
    ap (λ (k : ℕ). machine_turn w k s) next ∙ ap (λ (x : Option (Task Version)). turn_by i s (option_map (λ (t : Task Version). step_task w s.shared t) x)) there

pub none_behind : (w : World Version) (n i : ℕ) (s : MachineState Version) → n ≡ i + 1 → slice_get s.tasks i ≡ None → machine_turn w n s ≡ absent
none_behind w n i s is none = turn_at w n i s None is none

step_at : (w : World Version) (n i : ℕ) (s : MachineState Version) (u t : Task Version) (q : Shared) (seen : Seen) (ending : Ending) → n ≡ i + 1 → slice_get s.tasks i ≡ Some u
    → step_task w s.shared u ≡ Some (ended_as ending seen q t)
    → machine_turn w n s ≡ went ending (record { shared = q; tasks = slice_set s.tasks i t }) seen.line (shown_in seen)
step_at w n i s u t q seen ending is there made =
    turn_at w n i s (Some u) is there ∙ ap (λ (x : Option (Stepped Version)). turn_by i s (Some x)) made

state_same : (s : MachineState Version) (i : ℕ) (u t : Task Version) (q : Shared) → slice_get s.tasks i ≡ Some u → q ≡ s.shared → t ≡ u
    → record { shared = q; tasks = slice_set s.tasks i t } ≡ s
state_same s i u t q there shared same =
    ap (λ (x : Shared). record { shared = x; tasks = slice_set s.tasks i t }) shared
    ∙ ap (λ (x : Task Version). record { shared = s.shared; tasks = slice_set s.tasks i x }) same
    ∙ ap (λ (l : List (Task Version)). record { shared = s.shared; tasks = l }) (set_same s.tasks i u there)

-- a task's step
pub turned : (w : World Version) (n i : ℕ) (s : MachineState Version) (u t : Task Version) (q : Shared) (seen : Seen) (result : Result StepEnd AllocError)
    → n ≡ i + 1 → slice_get s.tasks i ≡ Some u → Steps result seen q s.shared t u (step_task w s.shared u)
    → IsTurn result seen (record { shared = q; tasks = slice_set s.tasks i t }) s (machine_turn w n s)
turned w n i s u t q seen (Ok end.Absent) is there h = absurd h
turned w n i s u t q seen (Ok end.Idle) is there h =
    (turn_at w n i s (Some u) is there ∙ ap (λ (x : Option (Stepped Version)). turn_by i s (Some x)) h.0, state_same s i u t q there h.1 h.2)
turned w n i s u t q seen (Ok end.Ran) is there h = step_at w n i s u t q seen ran is there h
turned w n i s u t q seen (Ok end.Ended) is there h = step_at w n i s u t q seen done is there h
turned w n i s u t q seen (Ok (end.Trapped trap)) is there h = step_at w n i s u t q seen (stopped trap) is there h
turned w n i s u t q seen (Err e) is there h = state_same s i u t q there h.0 h.1
