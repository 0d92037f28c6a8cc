-- For the contracts of private functions: what an instruction makes of what all tasks share and of the frames, which
-- are changed in place.
use Rattle.std.specs.Prelude.{◌≡◌, ◌∷◌, Option, Some, None, Result, Ok, Err}
use Rattle.std.specs.declared.alloc.AllocError.{AllocError}
use Rattle.enc_objects.specs.declared.trap.Trap.{Trap}
use Rattle.enc_versions.specs.Version.{Version}
use Rattle.enc_vm.specs.CallsSeen.{made_by}
use Rattle.enc_frames.specs.Console.{writing}
use Rattle.enc_frames.specs.Machine.{Thread, Shared, Task, going, ended, trapped}
use Rattle.enc_frames.specs.Results.{Made}
use Rattle.enc_vm.specs.Step.{Ending, ran, done, stopped, Stepped}
use Rattle.enc_vm.specs.Turns.{shown_in}
use Rattle.enc_vm.specs.declared.effect.Effect.{Effect}
use Rattle.enc_vm.specs.declared.effect.Effect.TheVariants.{Frames, Wrote}
use Rattle.enc_vm.specs.declared.ends.TaskState.{TaskState}
use Rattle.enc_vm.specs.declared.ends.TaskState.TheVariants as state
use Rattle.enc_vm.specs.declared.flights.FlightEnd.{FlightEnd}
use Rattle.enc_vm.specs.declared.flights.FlightEnd.TheVariants as flight
use Rattle.enc_vm.specs.declared.returns.FrameChange.TheVariants.{Stays, Left, LeftLast}
use Rattle.enc_vm.specs.declared.ends.StepEnd.{StepEnd}
use Rattle.enc_vm.specs.declared.ends.StepEnd.TheVariants as end
use Rattle.enc_vm.specs.declared.seen.Seen.{Seen}
use Rattle.enc_vm.specs.declared.task.Outcome.{Outcome}
use Rattle.enc_frames.specs.declared.stop.Stop.{Stop}
use Rattle.enc_frames.specs.declared.stop.Stop.TheVariants as stop

abbrev pub effect_made : Effect → Shared → Thread Version → Made Version
effect_made (Frames change) s t = made_by change s t
effect_made (Wrote units) s t = record { shared = s; thread = Some t; shown = writing units }

-- it makes what is defined, or traps where that does, and then changes nothing; without memory it changes nothing
abbrev pub Performs : Result Effect Stop → Shared → Shared → Thread Version → Thread Version
    → Result (Made Version) Trap → Type 0
Performs (Ok effect) s r t u said = said ≡ Ok (effect_made effect s t)
Performs (Err (stop.Trap trap)) s r t u said = (said ≡ Err trap) × (s ≡ r) × (t ≡ u)
Performs (Err stop.Memory) s r t u said = (s ≡ r) × (t ≡ u)

-- a task by how it stands with it
abbrev pub task_by : TaskState → Thread Version → Task Version
task_by state.Running t = going t
task_by state.Ended t = ended
task_by (state.Trapped trap) t = trapped trap (t.top ∷ t.below)

-- how a step ended, by how it stands with the task behind it
abbrev pub ending_of : TaskState → Ending
ending_of state.Running = ran
ending_of state.Ended = done
ending_of (state.Trapped trap) = stopped trap

abbrev pub step_end_of : TaskState → StepEnd
step_end_of state.Running = end.Ran
step_end_of state.Ended = end.Ended
step_end_of (state.Trapped trap) = end.Trapped trap

-- a step that came to this
abbrev pub stepped_as : TaskState → Seen → Shared → Thread Version → Stepped Version
stepped_as state seen s t = record {
  shared = s;
  task = task_by state t;
  end = ending_of state;
  line = seen.line;
  shown = shown_in seen;
}

-- a step of the frames came to what is defined; without memory nothing has changed
abbrev pub Turns : Result Outcome AllocError → Shared → Shared → Thread Version → Thread Version → Stepped Version
    → Type 0
Turns (Ok o) s r t u said = said ≡ stepped_as o.state o.seen s t
Turns (Err e) s r t u said = (s ≡ r) × (t ≡ u)

-- a step of a task is what is defined, and idle where that is nothing; without memory nothing has changed
abbrev pub ended_as : Ending → Seen → Shared → Task Version → Stepped Version
ended_as ending seen s t = record { shared = s; task = t; end = ending; line = seen.line; shown = shown_in seen }

abbrev pub Steps : Result StepEnd AllocError → Seen → Shared → Shared → Task Version → Task Version
    → Option (Stepped Version) → Type 0
Steps (Ok end.Absent) seen s r t u said = ⊥
Steps (Ok end.Idle) seen s r t u said = (said ≡ None) × (s ≡ r) × (t ≡ u)
Steps (Ok end.Ran) seen s r t u said = said ≡ Some (ended_as ran seen s t)
Steps (Ok end.Ended) seen s r t u said = said ≡ Some (ended_as done seen s t)
Steps (Ok (end.Trapped trap)) seen s r t u said = said ≡ Some (ended_as (stopped trap) seen s t)
Steps (Err e) seen s r t u said = (s ≡ r) × (t ≡ u)

-- what a flight's step made, as an instruction makes it
abbrev pub effect_of_flight : FlightEnd → Effect
effect_of_flight flight.Stays = Frames Stays
effect_of_flight (flight.Left method) = Frames (Left method)
effect_of_flight (flight.LeftLast method) = Frames (LeftLast method)
