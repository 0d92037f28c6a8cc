-- A step by an instruction, and a step of a task.
use Rattle.std.proofs.Common.{rules, ◌≡◌, ℕ, List, Option, Some, None, Result, Ok, Err, sym, ap, subst, ◌∙◌}
use Rattle.enc_objects.specs.declared.trap.Trap.{Trap}
use Rattle.enc_versions.specs.Version.{Version}
use Rattle.enc_vm.specs.EffectsSeen.{effect_made, step_end_of, stepped_as, task_by, Performs, Steps}
use Rattle.enc_frames.specs.Machine.{World, Frame, Thread, Shared, Task, going, ended, trapped}
use Rattle.enc_frames.specs.Results.{Made}
use Rattle.enc_vm.specs.Step.{Stepped, step_task, stepped, stepped_by, stepped_with, trapped_in}
use Rattle.enc_vm.specs.Turns.{KeepsSeen}
use Rattle.enc_vm.specs.declared.effect.Effect.{Effect}
use Rattle.enc_vm.specs.declared.ends.StepEnd.{StepEnd}
use Rattle.enc_vm.specs.declared.ends.TaskState.{TaskState}
use Rattle.enc_vm.specs.declared.ends.TaskState.TheVariants as state
use Rattle.enc_vm.specs.declared.seen.Seen.{Seen}
use Rattle.enc_frames.specs.declared.stop.Stop.{Stop}
use Rattle.enc_frames.specs.declared.stop.Stop.TheVariants as stop

-- it made something
pub made_turn : (line l : Option ℕ) (s r : Shared) (t u : Thread Version) (said : Result (Made Version) Trap) (effect : Effect) (x : Stepped Version)
    → said ≡ Ok (effect_made effect s t) → l ≡ line → stepped l (effect_made effect s t) ≡ x → stepped_by line r u said ≡ x
made_turn line l s r t u said effect x is same turn =
    ap (stepped_by line r u) is ∙ ap (λ (k : Option ℕ). stepped k (effect_made effect s t)) (sym same) ∙ turn

-- it trapped
pub trapped_turn : (line l : Option ℕ) (s r : Shared) (t u : Thread Version) (said : Result (Made Version) Trap) (trap : Trap) (x : Stepped Version)
    → said ≡ Err trap → s ≡ r → t ≡ u → l ≡ line → trapped_in l s t trap ≡ x → stepped_by line r u said ≡ x
trapped_turn line l s r t u said trap x is shared frames same turn =
    ap (stepped_by line r u) is
    ∙ ap (λ (k : Option ℕ). trapped_in k r u trap) (sym same)
    ∙ ap (λ (q : Shared). trapped_in l q u trap) (sym shared)
    ∙ ap (λ (q : Thread Version). trapped_in l s q trap) (sym frames)
    ∙ turn

ended_by : (how : TaskState) (end : StepEnd) (seen : Seen) (s r : Shared) (t : Thread Version) (u : Task Version) (whole : Option (Stepped Version))
    → end ≡ step_end_of how → whole ≡ Some (stepped_as how seen s t) → Steps (Ok end) seen s r (task_by how t) u whole
ended_by how end seen s r t u whole is h = subst (λ (e : StepEnd). Steps (Ok e) seen s r (task_by how t) u whole) (sym is) (by_state how h)
  where
    by_state : (k : TaskState) → whole ≡ Some (stepped_as k seen s t) → Steps (Ok (step_end_of k)) seen s r (task_by k t) u whole
    by_state state.Running e = e
    by_state state.Ended e = e
    by_state (state.Trapped trap) e = e

-- a task that goes on makes the step of its frames
pub going_turn : (w : World Version) (how : TaskState) (end : StepEnd) (seen : Seen) (s r : Shared) (t old : Thread Version) (u : Task Version)
    → u ≡ going old → end ≡ step_end_of how → stepped_with w r old old.flight ≡ stepped_as how seen s t
    → Steps (Ok end) seen s r (task_by how t) u (step_task w r u)
unfolding step_task
going_turn w how end seen s r t old u goes is turn =
    ended_by how end seen s r t u (step_task w r u) is (ap (step_task w r) goes ∙ ap Some turn)

-- one that has ended makes none
pub ended_turn : (w : World Version) (r : Shared) (u : Task Version) → u ≡ ended → step_task w r u ≡ None
unfolding step_task
ended_turn w r u is = ap (step_task w r) is

pub halted_turn : (w : World Version) (r : Shared) (u : Task Version) (x : Trap) (frames : List (Frame Version)) → u ≡ trapped x frames → step_task w r u ≡ None
unfolding step_task
halted_turn w r u x frames is = ap (step_task w r) is

-- why a step trapped
pub trap_made : (f : Stop) (trap : Trap) (s r : Shared) (t u : Thread Version) (said : Result (Made Version) Trap) → f ≡ stop.Trap trap → Performs (Err f) s r t u said
    → (said ≡ Err trap) × (s ≡ r) × (t ≡ u)
trap_made f trap s r t u said is h = subst (λ (k : Stop). Performs (Err k) s r t u said) is h

-- a step that was made may show anything
pub went_shown : (how : TaskState) (end : StepEnd) (new old : Seen) → end ≡ step_end_of how → KeepsSeen (Ok end) new old
went_shown how end new old is = subst (λ (e : StepEnd). KeepsSeen (Ok e) new old) (sym is) (by_state how)
  where
    by_state : (k : TaskState) → KeepsSeen (Ok (step_end_of k)) new old
    by_state state.Running = search rules
    by_state state.Ended = search rules
    by_state (state.Trapped trap) = search rules
