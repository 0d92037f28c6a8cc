-- What the calls on a session come to.
use Rattle.std.specs.Prelude.{◌≡◌, ◌⊎◌, ◌<◌, ◌+◌, ◌*◌, ℕ, List, [], ◌∷◌, ◌++◌, length, map, nat_le, is_some, Bool, true, false, Option, Some, None, Result, Ok, Err, zero, suc, if◌then◌else◌}
use Rattle.enc_base.specs.declared.refusal.Refusal.{Refusal}
use Rattle.enc_base.specs.declared.token.Token.{Token}
use Rattle.enc_checker.specs.Check.{Accepted}
use Rattle.enc_frames.specs.Machine.{PlainCode}
use Rattle.enc_objects.specs.declared.value.Value.{Value}
use Rattle.enc_vm.specs.Looks.{frames_in, state_in}
use Rattle.enc_vm.specs.Step.{Spawning, begun, too_many, no_method, spawn_in}
use Rattle.enc_vm.specs.declared.ends.StepEnd.TheVariants as end
use Rattle.enc_vm.specs.declared.ends.TaskState.{TaskState}
use Rattle.enc_session.specs.Recording.{Recorded, recorded_base, spawn_recorded, Stepping, steps_recorded, apply_recorded, remapped_in, remap_recorded, facts_in, values_in}
use Rattle.enc_session.specs.Session.{world_of, DeltaContents, judged_after}
use Rattle.enc_session.specs.States.{state_text}
use Rattle.enc_session.specs.declared.looks.FrameFacts.{FrameFacts}
use Rattle.enc_session.specs.declared.looks.FramePart.{FramePart}
use Rattle.enc_c.specs.Copied.{IsCopiedOut}
use Rattle.enc_c.specs.Outcomes.{ChangesOrStays, Stays}
use Rattle.enc_c.specs.Refusals.{numbers_of}
use Rattle.enc_c.specs.SessionNumbers.{stepped_numbers, event_numbers, frame_numbers, value_numbers, part_by, remapped_numbers}
use Rattle.enc_c.specs.State.{State, given_bytes}
use Rattle.enc_c.specs.Status.{number_of_status}
use Rattle.enc_c.specs.declared.refusal.RefusalNumbers.{RefusalNumbers}
use Rattle.enc_c.specs.declared.session_numbers.EventNumbers.{EventNumbers}
use Rattle.enc_c.specs.declared.session_numbers.FrameNumbers.{FrameNumbers}
use Rattle.enc_c.specs.declared.session_numbers.RemappedNumbers.{RemappedNumbers}
use Rattle.enc_c.specs.declared.session_numbers.SteppedNumbers.{SteppedNumbers}
use Rattle.enc_c.specs.declared.session_numbers.ValueNumbers.{ValueNumbers}
use Rattle.enc_c.specs.declared.status.Status.{Status}
use Rattle.enc_c.specs.declared.status.Status.TheVariants.{Done, Refused, Memory, Closed, Open, Short, Absent, Unlike, Limit, Few}

-- a session over a base that was opened: no deltas, and nothing recorded
abbrev pub session_over : Result State Refusal → ℕ → Result Recorded Refusal
session_over (Ok s) limit = Ok (recorded_base s.followed.base s.followed.debug limit)
session_over (Err e) limit = Err e

-- how many events so many steps tell at most
abbrev pub events_of_steps : ℕ → ℕ
events_of_steps count = 4 * count

-- a closed session is opened where its limit lets it make a step
abbrev pub OpensWith : Bool → ℕ → Option Recorded → RefusalNumbers → RefusalNumbers → Result Recorded Refusal → Type 0
OpensWith true status new refusal refusal_new said = ChangesOrStays status None new refusal refusal_new said
OpensWith false status new refusal refusal_new said = Stays Few status None new refusal refusal_new

-- a session that is open stays as it is
abbrev pub OpensSession : ℕ → Option Recorded → Option Recorded → RefusalNumbers → RefusalNumbers → ℕ
    → Result Recorded Refusal → Type 0
OpensSession status None new refusal refusal_new limit said =
    OpensWith (nat_le (events_of_steps 1) limit) status new refusal refusal_new said
OpensSession status (Some r) new refusal refusal_new limit said = Stays Open status (Some r) new refusal refusal_new

-- a session is changed, and a value is told; or the status says why not, and all stays
abbrev pub ChangesAndTells : {A : Type 0} → ℕ → Option Recorded → Option Recorded → A → A → Result (A × Recorded) Status
    → Type 0
ChangesAndTells status old new told told_new (Ok x) =
    (status ≡ number_of_status Done) × (new ≡ Some x.1) × (told_new ≡ x.0)
ChangesAndTells status old new told told_new (Err s) = (status ≡ number_of_status s) × (new ≡ old) × (told_new ≡ told)

-- so it is, or there is no memory
abbrev pub ChangesOrRunsOut : {A : Type 0} → ℕ → Option Recorded → Option Recorded → A → A
    → Result (A × Recorded) Status → Type 0
ChangesOrRunsOut status old new told told_new said =
    ChangesAndTells status old new told told_new said ⊎ ChangesAndTells status old new told told_new (Err Memory)

-- a call is made where there is room for so many events more, and else the status says that there is none
abbrev pub with_event_room : {A : Type 0} → ℕ → Recorded → Result A Status → Result A Status
with_event_room more r answer = if nat_le (length r.events + more) r.limit then answer else Err Short

-- a call is made where the limit has room for so many events, were all taken, and else the status says that it is
-- passed
abbrev pub within_event_limit : {A : Type 0} → ℕ → Recorded → Result A Status → Result A Status
within_event_limit more r answer = if nat_le more r.limit then answer else Err Limit

-- a spawn: the number of the task, and the session behind it
abbrev pub spawn_told : Token → Recorded → Spawning PlainCode → Result (ℕ × Recorded) Status
spawn_told method r (begun n u) = Ok (n, spawn_recorded method r)
spawn_told method r too_many = Err Limit
spawn_told method r no_method = Err Unlike

unfoldable pub asked_spawn : Token → Recorded → Result (ℕ × Recorded) Status
asked_spawn method r = with_event_room 3 r (spawn_told method r (spawn_in (world_of r.followed) method r.machine))

-- an answer about a task that is there
abbrev pub of_task : {A : Type 0} → ℕ → Recorded → Result A Status → Result A Status
of_task task r answer = if is_some (state_in r.machine task) then answer else Err Absent

-- at most so many steps of a task: how many ran and how it stands with the task, and the session behind them
abbrev pub told_behind : ℕ → ℕ → Recorded → SteppedNumbers × Recorded
told_behind task ran s = (stepped_numbers ran (state_in s.machine task), s)

abbrev pub stepping_told : ℕ → Stepping → SteppedNumbers × Recorded
stepping_told task x = told_behind task x.ran x.session

unfoldable pub asked_steps : ℕ → ℕ → Recorded → Result (SteppedNumbers × Recorded) Status
asked_steps task count r =
    of_task task r (within_event_limit (events_of_steps count) r (with_event_room (events_of_steps count) r
    (Ok (stepping_told task (steps_recorded task count r)))))

-- memory ran out behind fewer steps, each of which ran: those stand, and are told
pub record HaveRunOut (status task count : ℕ) (r : Recorded) (new : Option Recorded)
    (told : SteppedNumbers) : Type 0 where
  pub status_is : status ≡ number_of_status Memory
  pub session : Recorded
  pub fewer : told.ran < count
  pub ran : steps_recorded task told.ran r ≡ record { ran = told.ran; end = end.Ran; session = session }
  pub new_is : new ≡ Some session
  pub told_is : told ≡ stepped_numbers told.ran (state_in session.machine task)

-- steps of an open session
abbrev pub StepsOf : ℕ → Option Recorded → Option Recorded → SteppedNumbers → SteppedNumbers → ℕ → ℕ → Type 0
StepsOf status None new told told_new task count = ChangesAndTells status None new told told_new (Err Closed)
StepsOf status (Some r) new told told_new task count =
    ChangesAndTells status (Some r) new told told_new
    (asked_steps task count r) ⊎ HaveRunOut status task count r new told_new

-- a delta: it is applied, or refused, which is an event too
abbrev pub JudgesIn : ℕ → Option Recorded → RefusalNumbers → RefusalNumbers → DeltaContents → Recorded
    → Result Accepted Refusal → Type 0
JudgesIn status new refusal refusal_new files r (Ok a) =
    (status ≡ number_of_status Done) × (new ≡ Some (apply_recorded files r)) × (refusal_new ≡ refusal)
JudgesIn status new refusal refusal_new files r (Err e) =
    (status ≡ number_of_status Refused) × (new ≡ Some (apply_recorded files r)) × (refusal_new ≡ numbers_of e)

abbrev pub delta_given : List ℕ → List ℕ → List ℕ → DeltaContents
delta_given meta il pdb = record { metadata = meta; code = il; debug = given_bytes pdb }

abbrev pub AppliesIf : Bool → ℕ → Option Recorded → RefusalNumbers → RefusalNumbers → DeltaContents → Recorded → Type 0
AppliesIf true status new refusal refusal_new files r =
    JudgesIn status new refusal refusal_new files r (judged_after r.followed files) ⊎ Stays Memory status
    (Some r) new refusal refusal_new
AppliesIf false status new refusal refusal_new files r = Stays Short status (Some r) new refusal refusal_new

abbrev pub AppliesIn : ℕ → Option Recorded → Option Recorded → RefusalNumbers → RefusalNumbers → DeltaContents → Type 0
AppliesIn status None new refusal refusal_new files = Stays Closed status None new refusal refusal_new
AppliesIn status (Some r) new refusal refusal_new files =
    AppliesIf (nat_le (length r.events + 1) r.limit) status new refusal refusal_new files r

-- a remap of the innermost frame of a task
unfoldable pub asked_remap : ℕ → List (ℕ × ℕ) → Recorded → Result (RemappedNumbers × Recorded) Status
asked_remap task pairs r = Ok (remapped_numbers (remapped_in task pairs r), remap_recorded task pairs r)

-- how it stands with a task
abbrev pub standing_told : Option TaskState → Result SteppedNumbers Status
standing_told None = Err Absent
standing_told (Some s) = Ok (stepped_numbers 0 (Some s))

abbrev pub asked_task : ℕ → Recorded → Result SteppedNumbers Status
asked_task task r = standing_told (state_in r.machine task)

-- the text of the state
abbrev pub asked_state : Recorded → Result (List ℕ) Status
asked_state r = Ok (state_text r.machine)

-- the frames of a task, from the outermost
abbrev pub listed_if : {A : Type 0} → Option A → List A
listed_if None = []
listed_if (Some a) = a ∷ []

unfoldable pub facts_below : Recorded → ℕ → ℕ → List FrameFacts
facts_below r task zero = []
facts_below r task (suc i) = facts_below r task i ++ listed_if (facts_in r task i)

unfoldable pub asked_frames : ℕ → Recorded → Result (List FrameNumbers) Status
asked_frames task r = of_task task r (Ok (map frame_numbers (facts_below r task (length (frames_in r.machine task)))))

-- the values of a frame
abbrev pub values_told : Option (List Value) → Result (List ValueNumbers) Status
values_told None = Err Absent
values_told (Some vs) = Ok (map value_numbers vs)

abbrev pub values_of_part : ℕ → ℕ → Option FramePart → Recorded → Result (List ValueNumbers) Status
values_of_part task i None r = Err Unlike
values_of_part task i (Some part) r = values_told (values_in r.machine task i part)

unfoldable pub asked_values : ℕ → ℕ → ℕ → Recorded → Result (List ValueNumbers) Status
asked_values task i which r = values_of_part task i (part_by which) r

-- all events, or all text, are taken where they were copied, and stay where the buffer is too short
abbrev pub without_events : Recorded → Recorded
without_events r = record r { events = [] }

abbrev pub without_text : Recorded → Recorded
without_text r = record r { text = [] }

abbrev pub taken_if : Bool → Recorded → Recorded → Recorded
taken_if fits taken r = if fits then taken else r

abbrev pub TakesEvents : ℕ → Option Recorded → Option Recorded → List EventNumbers → List EventNumbers → ℕ → ℕ → Type 0
TakesEvents status None new buffer buffer_new size size_new =
    (status ≡ number_of_status Closed) × (new ≡ None) × (buffer_new ≡ buffer) × (size_new ≡ size)
TakesEvents status (Some r) new buffer buffer_new size size_new =
    IsCopiedOut status buffer buffer_new size_new (map event_numbers r.events)
    × (new ≡ Some (taken_if (nat_le (length r.events) (length buffer)) (without_events r) r))

abbrev pub TakesText : ℕ → Option Recorded → Option Recorded → List ℕ → List ℕ → ℕ → ℕ → Type 0
TakesText status None new buffer buffer_new size size_new =
    (status ≡ number_of_status Closed) × (new ≡ None) × (buffer_new ≡ buffer) × (size_new ≡ size)
TakesText status (Some r) new buffer buffer_new size size_new =
    IsCopiedOut status buffer buffer_new size_new r.text
    × (new ≡ Some (taken_if (nat_le (length r.text) (length buffer)) (without_text r) r))
