-- A session that is recorded: its events and its text until they are taken, and of each frame the generation that
-- brought its body.
use Rattle.std.specs.Prelude.{◌≡◌, ◌<◌, ◌+◌, ◌-◌, ℕ, zero, suc, List, [], ◌∷◌, ◌++◌, length, map, take, drop, reverse, get_or, slice_set, nat_le, Option, None, option_map, unwrap_or, Result, Ok, Err, if◌then◌else◌}
use Rattle.std.specs.List.{list_any}
use Rattle.std.specs.declared.alloc.AllocError.{AllocError}
use Rattle.enc_base.specs.Order.{or_else}
use Rattle.enc_base.specs.Token.{is_token}
use Rattle.enc_base.specs.declared.refusal.Refusal.{Refusal}
use Rattle.enc_base.specs.declared.token.Token.{Token}
use Rattle.enc_checker.specs.Check.{Accepted, new_bodies}
use Rattle.enc_checker.specs.Followed.{Followed, plain_of, debug_after}
use Rattle.enc_frames.specs.Machine.{PlainCode, Frame, Task, MachineState, at_rest}
use Rattle.enc_objects.specs.declared.value.Value.{Value}
use Rattle.enc_remap.specs.Remap.{Remapping, moved, refused, remap_in}
use Rattle.enc_rows.specs.Source.{Source}
use Rattle.enc_vm.specs.Looks.{frames_of, frames_in, frame_in}
use Rattle.enc_vm.specs.Step.{ran, done, stopped, Spawning, begun, too_many, no_method, spawn_in}
use Rattle.enc_vm.specs.Turns.{MachineTurn, absent, idle, went, machine_turn}
use Rattle.enc_vm.specs.declared.ends.StepEnd.{StepEnd}
use Rattle.enc_vm.specs.declared.ends.StepEnd.TheVariants as end
use Rattle.enc_watch.specs.declared.event.Event.{Event}
use Rattle.enc_session.specs.Session.{world_of, begun_events, innermost_method, step_events, step_lines, DeltaContents, judged_after, followed_after, applied_as, applied_event}
use Rattle.enc_session.specs.declared.looks.FrameFacts.{FrameFacts}
use Rattle.enc_session.specs.declared.looks.FramePart.{FramePart}
use Rattle.enc_session.specs.declared.looks.FramePart.TheVariants.{Arguments, Locals, Stack}

-- the base with its deltas, the machine, the events and the text that nobody has taken, the generations of each task's
-- frames, the innermost first, and how many events there may be
pub record Recorded : Type 0 where
  pub followed : Followed
  pub machine : MachineState PlainCode
  pub events : List Event
  pub text : List ℕ
  pub generations : List (List ℕ)
  pub limit : ℕ

-- a base without deltas, and nothing recorded
abbrev pub recorded_base : Source → Option Source → ℕ → Recorded
recorded_base base debug limit = record {
  followed = record { base = base; deltas = []; debug = debug; debugs = [] };
  machine = at_rest;
  events = [];
  text = [];
  generations = [];
  limit = limit;
}

-- the newest of some deltas that brought a method a body, by its generation, 0 where none did
unfoldable pub body_generation : List Source → Token → ℕ
body_generation [] method = 0
body_generation (d ∷ older) method =
    if list_any (is_token method) (new_bodies d) then length older + 1 else body_generation older method

-- the generations of frames, the innermost first, by those that there were: frames that are more are new, and where
-- they are fewer, as many are gone from the front
unfoldable pub generations_now : {C : Type 0} → (Token → ℕ) → List (Frame C) → List ℕ → List ℕ
generations_now generation frames generations =
    map (λ (f : Frame _). generation f.method) (take (length frames - length generations) frames) ++ drop
    (length generations - length frames) generations

-- those of the frames of the task with a number, from 1
abbrev pub generations_of : List (List ℕ) → ℕ → List ℕ
generations_of generations task = get_or generations (task - 1) []

abbrev pub generations_now_in : Followed → MachineState PlainCode → ℕ → List (List ℕ) → List (List ℕ)
generations_now_in f m task generations = slice_set generations (task - 1)
    (generations_now (body_generation f.deltas) (frames_in m task) (generations_of generations task))

-- each task has a generation for each of its frames, and no other
abbrev pub HaveGenerations : MachineState PlainCode → List (List ℕ) → Type 0
HaveGenerations m generations =
    map (λ (gs : List ℕ). length gs) generations ≡ map (λ (t : Task PlainCode). length (frames_of t)) m.tasks

-- and with another one of the innermost frame
abbrev pub with_first_generation : ℕ → List ℕ → List ℕ
with_first_generation generation [] = []
with_first_generation generation (_ ∷ generations) = generation ∷ generations

abbrev pub moved_generations : Followed → Token → ℕ → List (List ℕ) → List (List ℕ)
moved_generations f method task generations =
    slice_set generations (task - 1)
    (with_first_generation (body_generation f.deltas method) (generations_of generations task))

-- a spawn: where there is no new task, nothing happened
abbrev pub spawn_recorded_by : Token → Spawning PlainCode → Recorded → Recorded
spawn_recorded_by method (begun n u) r = record r {
  machine = u;
  events = r.events ++ begun_events method n u;
  generations = r.generations ++ generations_now (body_generation r.followed.deltas) (frames_in u n) [] ∷ [];
}
spawn_recorded_by method too_many r = r
spawn_recorded_by method no_method r = r

unfoldable pub spawn_recorded : Token → Recorded → Recorded
spawn_recorded method r = spawn_recorded_by method (spawn_in (world_of r.followed) method r.machine) r

-- a step
abbrev pub turn_recorded : ℕ → MachineTurn PlainCode → Recorded → Recorded
turn_recorded task absent r = r
turn_recorded task idle r = r
turn_recorded task (went how u line shown) r = record r {
  machine = u;
  events = r.events ++ step_events task (innermost_method r.machine task) how line shown;
  text = r.text ++ step_lines task how u shown;
  generations = generations_now_in r.followed u task r.generations;
}

unfoldable pub step_recorded : ℕ → Recorded → Recorded
step_recorded task r = turn_recorded task (machine_turn (world_of r.followed) task r.machine) r

-- at most so many steps of a task: how many ran, the last of the task among them and none that trapped, what the
-- last came to, and the session behind it
pub record Stepping : Type 0 where
  pub ran : ℕ
  pub end : StepEnd
  pub session : Recorded

abbrev pub stepping_behind : Stepping → Stepping
stepping_behind x = record { ran = x.ran + 1; end = x.end; session = x.session }

-- by the turn, the session behind it, and the steps that follow where the task goes on
abbrev pub stepping_by : MachineTurn PlainCode → Recorded → Stepping → Stepping
stepping_by absent r more = record { ran = 0; end = end.Absent; session = r }
stepping_by idle r more = record { ran = 0; end = end.Idle; session = r }
stepping_by (went ran u line shown) r more = stepping_behind more
stepping_by (went done u line shown) r more = record { ran = 1; end = end.Ended; session = r }
stepping_by (went (stopped x) u line shown) r more = record { ran = 0; end = end.Trapped x; session = r }

unfoldable pub steps_recorded : ℕ → ℕ → Recorded → Stepping
steps_recorded task zero r = record { ran = 0; end = end.Ran; session = r }
steps_recorded task (suc n) r =
    stepping_by (machine_turn (world_of r.followed) task r.machine) (step_recorded task r)
    (steps_recorded task n (step_recorded task r))

-- so many steps were asked for, so many ran, and how the last ended; without memory those that ran stand, and there
-- is one that was asked for and not made
abbrev pub HasStepped : Result StepEnd AllocError → ℕ → ℕ → ℕ → Recorded → Recorded → Type 0
HasStepped (Ok how) made task count old new =
    steps_recorded task count old ≡ record { ran = made; end = how; session = new }
HasStepped (Err e) made task count old new =
    (made < count) × (steps_recorded task made old ≡ record { ran = made; end = end.Ran; session = new })

-- a delta: it is applied, or refused
abbrev pub judged_recorded : Result Accepted Refusal → Recorded → Recorded
judged_recorded said r = record r {
  followed = followed_after said r.followed;
  events = r.events ++ applied_event (applied_as said r.followed) ∷ [];
}

unfoldable pub apply_recorded : DeltaContents → Recorded → Recorded
apply_recorded files r = judged_recorded (judged_after r.followed files) r

-- a remap of the innermost frame of a task, which isn't an event
abbrev pub remapped_in : ℕ → List (ℕ × ℕ) → Recorded → Remapping PlainCode
remapped_in task pairs r = remap_in (plain_of r.followed) (debug_after r.followed) task pairs r.machine

abbrev pub remap_recorded_by : ℕ → Remapping PlainCode → Recorded → Recorded
remap_recorded_by task (moved method from to u) r =
    record r { machine = u; generations = moved_generations r.followed method task r.generations }
remap_recorded_by task (refused number) r = r

unfoldable pub remap_recorded : ℕ → List (ℕ × ℕ) → Recorded → Recorded
remap_recorded task pairs r = remap_recorded_by task (remapped_in task pairs r) r

-- the start line of the last point that isn't hidden at or before an offset (Portable PDB v1.0, sequence points)
abbrev pub line_of_point : ℕ → ℕ × Option (ℕ × ℕ × ℕ × ℕ) → Option ℕ
line_of_point offset p = if nat_le p.0 offset then option_map (λ (l : ℕ × ℕ × ℕ × ℕ). l.0) p.1 else None

unfoldable pub line_before : ℕ → List (ℕ × Option (ℕ × ℕ × ℕ × ℕ)) → Option ℕ
line_before offset [] = None
line_before offset (p ∷ points) = or_else (line_before offset points) (line_of_point offset p)

-- a frame with these points and this generation, as it is told: a line 0 where there is none
abbrev pub facts_with : {C : Type 0} → ℕ → List (ℕ × Option (ℕ × ℕ × ℕ × ℕ)) → Frame C → FrameFacts
facts_with generation points f = record {
  method = f.method;
  generation = generation;
  offset = f.offset;
  line = unwrap_or (line_before f.offset points) 0;
  arguments = length f.args;
  locals = length f.locals;
  stack = length f.stack;
}

-- the i-th frame of a task, from 0 for the outermost, by its own points
unfoldable pub facts_in : Recorded → ℕ → ℕ → Option FrameFacts
facts_in r task i =
    option_map
    (λ (f : Frame PlainCode). facts_with (get_or (reverse (generations_of r.generations task)) i 0) f.code.points f)
    (frame_in r.machine task i)

-- what a frame holds, its stack from the bottom up
abbrev pub held_in : {C : Type 0} → FramePart → Frame C → List Value
held_in Arguments f = f.args
held_in Locals f = f.locals
held_in Stack f = reverse f.stack

-- and so of the i-th frame of a task
abbrev pub values_in : MachineState PlainCode → ℕ → ℕ → FramePart → Option (List Value)
values_in m task i part = option_map (held_in part) (frame_in m task i)
