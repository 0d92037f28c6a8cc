-- What a command that makes steps says, by how it stands with the task.
use Rattle.std.proofs.Common.{◌≡◌, ◌≢◌, ℕ, zero, suc, Bool, List, ◌++◌, Option, Some, None, option_map, refl, ap, ◌∙◌, append_assoc}
use Rattle.std.specs.Prelude.{codes}
use Rattle.enc_vm.specs.Looks.{state_of, state_in}
use Rattle.enc_frames.specs.Machine.{World, Task, going, ended, trapped, MachineState}
use Rattle.enc_vm.specs.Step.{Ending, step_task, task_at}
use Rattle.enc_frames.specs.Results.{Shown}
use Rattle.enc_vm.specs.Turns.{MachineTurn, absent, idle, went, turn_by, machine_turn}
use Rattle.enc_vm.specs.declared.ends.TaskState.{TaskState}
use Rattle.enc_vm.specs.declared.ends.TaskState.TheVariants as state
use Rattle.enc_session.specs.Session.{world_of}
use Rattle.enc_session.specs.Lines.{task_line}
use Rattle.enc_script.proofs.Events.{said}
use Rattle.enc_script.specs.Lines.{ran_line, idle_line, absent_task_line}
use Rattle.enc_script.specs.Ran.{HasRan, HaveStepped}
use Rattle.enc_script.specs.Run.{PlainRun, Ran, StepsMade, steps_told, steps_ran, steps_of}

-- there is no task
absent_by : {C : Type 0} (w : World C) (i : ℕ) (s : MachineState C) (o : Option (Task C)) → option_map state_of o ≡ None
    → turn_by i s (option_map (λ (t : Task _). step_task w s.shared t) o) ≡ absent
absent_by w i s None h = refl
absent_by w i s (Some t) h = absurd cc

pub absent_turn : {C : Type 0} (w : World C) (task : ℕ) (s : MachineState C) → state_in s task ≡ None → machine_turn w task s ≡ absent
unfolding machine_turn
absent_turn w zero s h = refl
absent_turn w (suc i) s h = absent_by w i s (task_at s (suc i)) h

-- it has ended or trapped
idle_by : {C : Type 0} (w : World C) (i : ℕ) (s : MachineState C) (o : Option (Task C)) (x : TaskState) → option_map state_of o ≡ Some x → x ≢ state.Running
    → turn_by i s (option_map (λ (t : Task _). step_task w s.shared t) o) ≡ idle
unfolding step_task
idle_by w i s None x h not = absurd cc
idle_by w i s (Some (going t)) x h not = absurd (not cc)
idle_by w i s (Some ended) x h not = refl
idle_by w i s (Some (trapped y frames)) x h not = refl

pub idle_turn : {C : Type 0} (w : World C) (task : ℕ) (s : MachineState C) (x : TaskState) → state_in s task ≡ Some x → x ≢ state.Running
    → machine_turn w task s ≡ idle
unfolding machine_turn
idle_turn w zero s x h not = absurd cc
idle_turn w (suc i) s x h not = idle_by w i s (task_at s (suc i)) x h not

-- it goes on
record Goes {C : Type 0} (said : MachineTurn C) : Type 0 where
  how : Ending
  state : MachineState C
  line : Option ℕ
  shown : Shown
  is : said ≡ went how state line shown

went_by : {C : Type 0} (w : World C) (i : ℕ) (s : MachineState C) (o : Option (Task C)) → option_map state_of o ≡ Some state.Running
    → Goes (turn_by i s (option_map (λ (t : Task _). step_task w s.shared t) o))
unfolding step_task
went_by w i s None h = absurd cc
went_by w i s (Some (going t)) h = record { how = _; state = _; line = _; shown = _; is = refl }
went_by w i s (Some ended) h = absurd cc
went_by w i s (Some (trapped y frames)) h = absurd cc

goes : {C : Type 0} (w : World C) (task : ℕ) (s : MachineState C) → state_in s task ≡ Some state.Running → Goes (machine_turn w task s)
unfolding machine_turn
goes w zero s h = absurd cc
goes w (suc i) s h = went_by w i s (task_at s (suc i)) h

ran_by : (task : ℕ) (said : MachineTurn _) (x : StepsMade) (deaf : List Bool) (r : PlainRun) → Goes said → steps_ran task said x deaf r ≡ steps_told task r.handed x
ran_by task said x deaf r g = ap (λ (t : MachineTurn _). steps_ran task t x deaf r) g.is

-- steps were made, and so many are told
pub steps_said : (task count made : ℕ) (new old : PlainRun) (now mid before : List ℕ)
    → state_in old.session.machine task ≡ Some state.Running → HaveStepped (steps_of task count) made new.session old.session mid before
    → new.handed ≡ old.handed → now ≡ mid ++ ran_line task made
    → HasRan (λ deaf r. steps_ran task (machine_turn (world_of r.session.followed) task r.session.machine) (steps_of task count deaf r.session) deaf r) new old now before
steps_said task count made new old now mid before running are left closes = record {
  deaf = are.deaf;
  text = are.text ++ ran_line task made;
  appended = closes ∙ ap (λ (t : List ℕ). t ++ ran_line task made) are.appended ∙ append_assoc before are.text (ran_line task made);
  ran = λ more.
      ran_by task (machine_turn (world_of old.session.followed) task old.session.machine) (steps_of task count (are.deaf ++ more) old.session) (are.deaf ++ more) old
      (goes (world_of old.session.followed) task old.session.machine running)
      ∙ ap (steps_told task old.handed) (are.stepped more) ∙ run_is more;
}
  where
    told_as : PlainRun → List Bool → Ran
    told_as r deaf = record { run = r; text = are.text ++ ran_line task made; deaf = deaf }

    run_is : (more : List Bool) → told_as (record { session = new.session; handed = old.handed }) more ≡ told_as new more
    run_is more = rw (← left) refl

-- of a task that isn't there, and of one that makes no more, it is said
pub absent_said : (task count : ℕ) (r : PlainRun) (now before : List ℕ) → state_in r.session.machine task ≡ None → now ≡ before ++ task_line task (codes "absent")
    → HasRan (λ deaf x. steps_ran task (machine_turn (world_of x.session.followed) task x.session.machine) (steps_of task count deaf x.session) deaf x) r r now before
unfolding absent_task_line
absent_said task count r now before none printed =
    said (λ deaf x. steps_ran task (machine_turn (world_of x.session.followed) task x.session.machine) (steps_of task count deaf x.session) deaf x)
    (absent_task_line task) r r r now before
    (λ deaf. ap (λ (t : MachineTurn _). steps_ran task t (steps_of task count deaf r.session) deaf r) (absent_turn (world_of r.session.followed) task r.session.machine none))
    refl printed

pub idle_said : (task count : ℕ) (x : TaskState) (r : PlainRun) (now before : List ℕ) → state_in r.session.machine task ≡ Some x → x ≢ state.Running
    → now ≡ before ++ task_line task (codes "idle")
    → HasRan (λ deaf y. steps_ran task (machine_turn (world_of y.session.followed) task y.session.machine) (steps_of task count deaf y.session) deaf y) r r now before
unfolding idle_line
idle_said task count x r now before is not printed =
    said (λ deaf y. steps_ran task (machine_turn (world_of y.session.followed) task y.session.machine) (steps_of task count deaf y.session) deaf y)
    (idle_line task) r r r now before
    (λ deaf. ap (λ (t : MachineTurn _). steps_ran task t (steps_of task count deaf r.session) deaf r) (idle_turn (world_of r.session.followed) task r.session.machine x is not))
    refl printed
