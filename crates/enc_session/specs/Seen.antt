-- For the contracts of private functions: how a step ended, and which frames were entered.
use Rattle.std.specs.Prelude.{ℕ, List, [], ◌∷◌, Option, Some, None}
use Rattle.enc_frames.specs.Machine.{Frame}
use Rattle.enc_vm.specs.Step.{Ending, ran, done, stopped}
use Rattle.enc_vm.specs.declared.ends.StepEnd.{StepEnd}
use Rattle.enc_vm.specs.declared.ends.StepEnd.TheVariants as end
use Rattle.enc_watch.specs.declared.event.Event.{Event}
use Rattle.enc_session.specs.Session.{entered_event}

-- how a step ended, by what it came to
abbrev pub ending_told : StepEnd → Ending
ending_told (end.Trapped x) = stopped x
ending_told end.Ended = done
ending_told end.Ran = ran
ending_told end.Idle = ran
ending_told end.Absent = ran

-- that a frame was entered, where there is one
abbrev pub entered_if : {C : Type 0} → ℕ → Option (Frame C) → List Event
entered_if n None = []
entered_if n (Some f) = entered_event n f ∷ []
