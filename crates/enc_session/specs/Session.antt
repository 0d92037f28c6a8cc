-- A session: a machine over one module that is edited directly, and the watchers that hear of it (ECMA-335 I.12.3).
use Rattle.std.specs.Prelude.{◌≡◌, ℕ, ◌+◌, Bool, List, [], ◌∷◌, ◌++◌, length, map, reverse, Option, Some, None, option_map, Result, Ok, Err}
use Rattle.enc_agg.specs.Extend.{chain_with}
use Rattle.enc_base.specs.declared.refusal.Refusal.{Refusal}
use Rattle.enc_base.specs.declared.token.Token.{Token}
use Rattle.enc_checker.specs.Check.{Accepted, judged}
use Rattle.enc_checker.specs.declared.judging.Files.{Files}
use Rattle.enc_checker.specs.Followed.{Followed, followed_by, plain_of, debug_after}
use Rattle.enc_delta.specs.Delta.{delta_of}
use Rattle.enc_vm.specs.Looks.{frames_in, innermost_in}
use Rattle.enc_frames.specs.Machine.{World, PlainCode, Frame, MachineState, plain_world}
use Rattle.enc_frames.specs.Results.{Shown}
use Rattle.enc_vm.specs.Step.{Ending, ran, done, stopped, Spawning, begun, too_many, no_method, spawn_in}
use Rattle.enc_vm.specs.Turns.{MachineTurn, absent, idle, went, machine_turn}
use Rattle.enc_vm.specs.declared.ends.StepEnd.{StepEnd}
use Rattle.enc_vm.specs.declared.ends.StepEnd.TheVariants as end
use Rattle.enc_remap.specs.Remap.{Remapping, moved, refused, remap_in}
use Rattle.enc_remap.specs.declared.remapped.Remapped.{Remapped}
use Rattle.enc_remap.specs.declared.remapped.Remapped.TheVariants as remapped
use Rattle.enc_watch.specs.Audience.{Seated, Heard, told_events}
use Rattle.enc_watch.specs.declared.event.Event.{Event}
use Rattle.enc_watch.specs.declared.event.Event.TheVariants as event
use Rattle.enc_session.specs.Lines.{written_line, ending_line}
use Rattle.enc_session.specs.declared.applied.Applied.{Applied}
use Rattle.enc_session.specs.declared.applied.Applied.TheVariants.{Generation, Refused}

-- the base with its deltas, the machine, which knows no generation, and the watchers that are attached
pub record PlainSession : Type 0 where
  pub followed : Followed
  pub machine : MachineState PlainCode
  pub seated : Seated

-- what a step sees: the module and the PDB that have all edits
abbrev pub world_of : Followed → World PlainCode
world_of f = plain_world (plain_of f) (debug_after f)

-- what comes of an event: the session behind it, what it prints, and which of the hearings behind it find no memory
pub record Happened : Type 0 where
  pub session : PlainSession
  pub text : List ℕ
  pub deaf : List Bool

-- nothing happened
abbrev pub nothing_passed : List Bool → PlainSession → Happened
nothing_passed deaf s = record { session = s; text = []; deaf = deaf }

-- what the watchers made of events, behind some text
abbrev pub heard_in : PlainSession → List ℕ → Heard → Happened
heard_in s text h = record {
  session = record {
    followed = s.followed;
    machine = s.machine;
    seated = record { seats = h.seats; given = s.seated.given };
  };
  text = text ++ h.text;
  deaf = h.deaf;
}

-- events are told to the watchers, behind some text
unfoldable pub passed_with : List Event → List ℕ → List Bool → PlainSession → Happened
passed_with events text deaf s = heard_in s text (told_events events deaf s.seated.seats)

abbrev pub with_machine : MachineState PlainCode → PlainSession → PlainSession
with_machine m s = record { followed = s.followed; machine = m; seated = s.seated }

abbrev pub with_followed : Followed → PlainSession → PlainSession
with_followed f s = record { followed = f; machine = s.machine; seated = s.seated }

abbrev pub with_seated : Seated → PlainSession → PlainSession
with_seated seated s = record { followed = s.followed; machine = s.machine; seated = seated }

-- a spawn: the task began, and entered each of its frames, from the outermost
abbrev pub entered_event : {C : Type 0} → ℕ → Frame C → Event
entered_event n f = event.Entered n f.method

abbrev pub begun_events : {C : Type 0} → Token → ℕ → MachineState C → List Event
begun_events method n u = event.Spawned n method ∷ map (entered_event n) (reverse (frames_in u n))

abbrev pub spawn_by : Token → Spawning PlainCode → List Bool → PlainSession → Happened
spawn_by method (begun n u) deaf s = passed_with (begun_events method n u) [] deaf (with_machine u s)
spawn_by method too_many deaf s = nothing_passed deaf s
spawn_by method no_method deaf s = nothing_passed deaf s

unfoldable pub spawn_passed : Token → List Bool → PlainSession → Happened
spawn_passed method deaf s = spawn_by method (spawn_in (world_of s.followed) method s.machine) deaf s

-- what a step prints: what it writes, and that the task ended or trapped
unfoldable pub step_lines : {C : Type 0} → ℕ → Ending → MachineState C → Shown → List ℕ
step_lines task how u shown = written_line task shown.wrote ++ ending_line task how (innermost_in u task)

-- the method of a task's innermost frame
abbrev pub innermost_method : {C : Type 0} → MachineState C → ℕ → Option Token
innermost_method s task = option_map (λ (f : Frame _). f.method) (innermost_in s task)

-- the events of a step, in order: the line that the innermost frame came to, by its own points, a frame entered or
-- left, and how the step ended
abbrev pub line_events : ℕ → Option Token → Option ℕ → List Event
line_events task (Some method) (Some line) = event.Line task method line ∷ []
line_events task _ _ = []

abbrev pub entered_events : ℕ → Option Token → List Event
entered_events task None = []
entered_events task (Some method) = event.Entered task method ∷ []

abbrev pub left_events : ℕ → Option Token → List Event
left_events task None = []
left_events task (Some method) = event.Left task method ∷ []

abbrev pub ending_events : ℕ → Ending → List Event
ending_events task ran = []
ending_events task done = event.Ended task ∷ []
ending_events task (stopped x) = event.Trapped task x ∷ []

unfoldable pub step_events : ℕ → Option Token → Ending → Option ℕ → Shown → List Event
step_events task method how line shown =
    line_events task method line ++ entered_events task shown.entered ++ left_events task shown.left
    ++ ending_events task how

-- a step
abbrev pub turn_passed : ℕ → MachineTurn PlainCode → List Bool → PlainSession → Happened
turn_passed task absent deaf s = nothing_passed deaf s
turn_passed task idle deaf s = nothing_passed deaf s
turn_passed task (went how u line shown) deaf s =
    passed_with (step_events task (innermost_method s.machine task) how line shown) (step_lines task how u shown) deaf
    (with_machine u s)

unfoldable pub step_passed : ℕ → List Bool → PlainSession → Happened
step_passed task deaf s = turn_passed task (machine_turn (world_of s.followed) task s.machine) deaf s

-- what a turn comes to, as it is answered
abbrev pub turn_end : {C : Type 0} → MachineTurn C → StepEnd
turn_end absent = end.Absent
turn_end idle = end.Idle
turn_end (went ran u line shown) = end.Ran
turn_end (went done u line shown) = end.Ended
turn_end (went (stopped x) u line shown) = end.Trapped x

-- the files of a delta
pub record DeltaContents : Type 0 where
  pub metadata : List ℕ
  pub code : List ℕ
  pub debug : Option (List ℕ)

abbrev pub files_in : Files → DeltaContents
files_in f = record { metadata = f.meta.items; code = f.il.items; debug = option_map (λ b. b.items) f.pdb }

-- what they come to after the deltas before them
abbrev pub judged_after : Followed → DeltaContents → Result Accepted Refusal
judged_after f files = judged (chain_with f.base f.deltas) (delta_of files.metadata files.code) files.debug

-- a delta: it is applied and makes the next generation, or it is refused and changes nothing
abbrev pub followed_after : Result Accepted Refusal → Followed → Followed
followed_after (Ok a) f = followed_by f a
followed_after (Err e) f = f

abbrev pub applied_as : Result Accepted Refusal → Followed → Applied
applied_as (Ok a) f = Generation (length f.deltas + 1)
applied_as (Err e) f = Refused e

abbrev pub applied_event : Applied → Event
applied_event (Generation g) = event.Applied g
applied_event (Refused e) = event.Refused e.code

abbrev pub apply_by : Result Accepted Refusal → List Bool → PlainSession → Happened
apply_by said deaf s =
    passed_with (applied_event (applied_as said s.followed) ∷ []) [] deaf
    (with_followed (followed_after said s.followed) s)

unfoldable pub apply_passed : DeltaContents → List Bool → PlainSession → Happened
apply_passed files deaf s = apply_by (judged_after s.followed files) deaf s

-- a remap of the innermost frame of a task: no watcher hears of it
abbrev pub remap_of : ℕ → List (ℕ × ℕ) → PlainSession → Remapping PlainCode
remap_of task pairs s = remap_in (plain_of s.followed) (debug_after s.followed) task pairs s.machine

abbrev pub remap_happened : Remapping PlainCode → List Bool → PlainSession → Happened
remap_happened (moved method from to u) deaf s = nothing_passed deaf (with_machine u s)
remap_happened (refused number) deaf s = nothing_passed deaf s

unfoldable pub remap_passed : ℕ → List (ℕ × ℕ) → List Bool → PlainSession → Happened
remap_passed task pairs deaf s = remap_happened (remap_of task pairs s) deaf s

-- what it comes to, as it is answered
abbrev pub remapped_as : {C : Type 0} → Remapping C → Remapped
remapped_as (moved method from to u) = remapped.Moved method from to
remapped_as (refused number) = remapped.Refused number

-- it passed, and what it prints was appended: of each hearing it is free only whether it found memory
pub record HasPassed (event : List Bool → PlainSession → Happened) (new old : PlainSession)
    (now before : List ℕ) : Type 0 where
  pub deaf : List Bool
  pub text : List ℕ
  pub appended : now ≡ before ++ text
  pub passed : (more : List Bool) → event (deaf ++ more) old ≡ record { session = new; text = text; deaf = more }
