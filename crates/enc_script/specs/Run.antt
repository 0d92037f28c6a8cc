-- What a script prints: its commands in order, each on the session that those before it left (ECMA-335 I.12.3).
use Rattle.std.specs.Prelude.{◌≡◌, ℕ, zero, suc, ◌+◌, Bool, List, [], ◌∷◌, ◌++◌, Option, Some, None, codes, bytes_eq, string_bytes, if◌then◌else◌}
use Rattle.enc_base.specs.declared.refusal.Refusal.{Refusal}
use Rattle.enc_base.specs.declared.token.Token.{Token}
use Rattle.enc_checker.specs.Followed.{Followed, is_of_pdb}
use Rattle.enc_jobs.specs.declared.command.Command.{Command}
use Rattle.enc_jobs.specs.declared.command.Command.TheVariants.{Spawn, Step, Apply, Attach, Detach, Remap, State}
use Rattle.enc_text.specs.Text.{refused_line}
use Rattle.enc_frames.specs.Machine.{PlainCode, at_rest}
use Rattle.enc_vm.specs.Step.{ran, done, stopped, spawn_in}
use Rattle.enc_vm.specs.Turns.{MachineTurn, absent, idle, went, machine_turn}
use Rattle.enc_watch.specs.Audience.{Watching, Seat, attached, first_of_kind, without_kind, seat_at, without, seat_report, reports}
use Rattle.enc_watch.specs.declared.event.WatchKind.{WatchKind}
use Rattle.enc_session.specs.Session.{PlainSession, Happened, DeltaContents, files_in, with_seated, world_of, judged_after, applied_as, step_passed, spawn_passed, apply_passed, remap_of, remap_passed}
use Rattle.enc_session.specs.States.{state_text}
use Rattle.enc_session.specs.declared.applied.Applied.{Applied}
use Rattle.enc_session.specs.declared.applied.Applied.TheVariants.{Generation, Refused}
use Rattle.enc_script.specs.declared.files.NamedDelta.{NamedDelta}
use Rattle.enc_script.specs.Lines.{spawn_line, ran_line, idle_line, absent_task_line, applied_line, attached_line, none_line, detached_line, number_absent_line, remap_line}

-- the files of a delta, and the names of its metadata's and its PDB's
pub record NamedFiles : Type 0 where
  pub metadata_name : List ℕ
  pub debug_name : List ℕ
  pub files : DeltaContents

abbrev pub named_delta : NamedDelta → NamedFiles
named_delta d = record {
  metadata_name = string_bytes d.metadata_name;
  debug_name = string_bytes d.debug_name;
  files = files_in d.files;
}

-- the first whose metadata's file has a name, and so those of a delta's name
unfoldable pub first_with_file : List ℕ → List NamedFiles → Option NamedFiles
first_with_file file [] = None
first_with_file file (d ∷ rest) = if bytes_eq d.metadata_name file then Some d else first_with_file file rest

abbrev pub files_of : List ℕ → List NamedFiles → Option NamedFiles
files_of name deltas = first_with_file (name ++ codes ".meta") deltas

-- a run on its way: the session, and the watchers that were handed in and not yet attached
pub record PlainRun : Type 0 where
  pub session : PlainSession
  pub handed : List Watching

-- what commands come to: the run behind them, what they print, and which of the hearings behind them find no memory
pub record Ran : Type 0 where
  pub run : PlainRun
  pub text : List ℕ
  pub deaf : List Bool

-- by what an event comes to, with the command's own line first
abbrev pub ran_with : List ℕ → List Watching → Happened → Ran
ran_with line handed p = record {
  run = record { session = p.session; handed = handed };
  text = line ++ p.text;
  deaf = p.deaf;
}

-- a command that only says something
abbrev pub says : List ℕ → List Bool → PlainRun → Ran
says line deaf r = record { run = r; text = line; deaf = deaf }

-- a spawn
abbrev pub spawn_ran : Token → List Bool → PlainRun → Ran
spawn_ran method deaf r =
    ran_with (spawn_line method (spawn_in (world_of r.session.followed) method r.session.machine)) r.handed
    (spawn_passed method deaf r.session)

-- steps of a task: how many were made, and what they came to; a step that trapped isn't counted
pub record StepsMade : Type 0 where
  pub count : ℕ
  pub passed : Happened

abbrev pub no_steps : List Bool → PlainSession → StepsMade
no_steps deaf s = record { count = 0; passed = record { session = s; text = []; deaf = deaf } }

abbrev pub steps_behind : Happened → StepsMade → StepsMade
steps_behind p x = record {
  count = x.count + 1;
  passed = record { session = x.passed.session; text = p.text ++ x.passed.text; deaf = x.passed.deaf };
}

-- by the turn and what it came to, and by the steps behind it where the task goes on
abbrev pub steps_by : MachineTurn PlainCode → Happened → StepsMade → StepsMade
steps_by absent p more = record { count = 0; passed = p }
steps_by idle p more = record { count = 0; passed = p }
steps_by (went ran u line shown) p more = steps_behind p more
steps_by (went done u line shown) p more = record { count = 1; passed = p }
steps_by (went (stopped x) u line shown) p more = record { count = 0; passed = p }

-- at most so many steps of a task
unfoldable pub steps_of : ℕ → ℕ → List Bool → PlainSession → StepsMade
steps_of task zero deaf s = no_steps deaf s
steps_of task (suc n) deaf s =
    steps_by (machine_turn (world_of s.followed) task s.machine) (step_passed task deaf s)
    (steps_of task n (step_passed task deaf s).deaf (step_passed task deaf s).session)

-- a command that makes steps: of a task that is absent or idle it says so
abbrev pub steps_told : ℕ → List Watching → StepsMade → Ran
steps_told task handed x = record {
  run = record { session = x.passed.session; handed = handed };
  text = x.passed.text ++ ran_line task x.count;
  deaf = x.passed.deaf;
}

abbrev pub steps_ran : ℕ → MachineTurn PlainCode → StepsMade → List Bool → PlainRun → Ran
steps_ran task absent x deaf r = says (absent_task_line task) deaf r
steps_ran task idle x deaf r = says (idle_line task) deaf r
steps_ran task (went how u line shown) x deaf r = steps_told task r.handed x

-- a delta: the line says the generation that it made, or which of its files is refused
abbrev pub refused_file : NamedFiles → Refusal → List ℕ
refused_file d e = if is_of_pdb e.code then d.debug_name else d.metadata_name

abbrev pub apply_line : List ℕ → NamedFiles → Applied → List ℕ
apply_line name d (Generation g) = applied_line name g
apply_line name d (Refused e) = refused_line (refused_file d e) e

abbrev pub apply_ran : List ℕ → Option NamedFiles → List Bool → PlainRun → Ran
apply_ran name None deaf r = says [] deaf r
apply_ran name (Some d) deaf r =
    ran_with (apply_line name d (applied_as (judged_after r.session.followed d.files) r.session.followed)) r.handed
    (apply_passed d.files deaf r.session)

-- an attach: the first that was handed in of the kind
abbrev pub attach_ran : WatchKind → Option Watching → List Bool → PlainRun → Ran
attach_ran k None deaf r = says (none_line k) deaf r
attach_ran k (Some w) deaf r =
    says (attached_line (r.session.seated.given + 1) k) deaf
    (record { session = with_seated (attached w r.session.seated) r.session; handed = without_kind k r.handed })

-- a detach, with the report
abbrev pub detach_ran : ℕ → Option Seat → List Bool → PlainRun → Ran
detach_ran number None deaf r = says (number_absent_line number) deaf r
detach_ran number (Some s) deaf r =
    says (detached_line number ++ seat_report s) deaf
    (record {
      session = with_seated (record { seats = without number r.session.seated.seats; given = r.session.seated.given })
          r.session;
      handed = r.handed;
    })

-- a remap: its line, and no watcher hears of it
abbrev pub remap_ran : ℕ → List (ℕ × ℕ) → List Bool → PlainRun → Ran
remap_ran task pairs deaf r = ran_with (remap_line task (remap_of task pairs r.session)) r.handed
    (remap_passed task pairs deaf r.session)

-- a command
unfoldable pub command_ran : List NamedFiles → Command → List Bool → PlainRun → Ran
command_ran deltas (Spawn method) deaf r = spawn_ran method deaf r
command_ran deltas (Step task count) deaf r =
    steps_ran task (machine_turn (world_of r.session.followed) task r.session.machine)
    (steps_of task count deaf r.session) deaf r
command_ran deltas (Apply name) deaf r = apply_ran name (files_of name deltas) deaf r
command_ran deltas (Attach k) deaf r = attach_ran k (first_of_kind k r.handed) deaf r
command_ran deltas (Detach number) deaf r = detach_ran number (seat_at number r.session.seated.seats) deaf r
command_ran deltas (Remap task pairs) deaf r = remap_ran task pairs deaf r
command_ran deltas State deaf r = says (state_text r.session.machine) deaf r

-- commands in order
abbrev pub ran_behind : List ℕ → Ran → Ran
ran_behind text x = record { run = x.run; text = text ++ x.text; deaf = x.deaf }

unfoldable pub commands_ran : List NamedFiles → List Command → List Bool → PlainRun → Ran
commands_ran deltas [] deaf r = says [] deaf r
commands_ran deltas (c ∷ cs) deaf r =
    ran_behind (command_ran deltas c deaf r).text
    (commands_ran deltas cs (command_ran deltas c deaf r).deaf (command_ran deltas c deaf r).run)

-- a run at its begin
abbrev pub begun_with : Followed → List Watching → PlainRun
begun_with f handed = record {
  session = record {
    followed = f;
    machine = at_rest;
    seated = record { seats = []; given = 0 };
  };
  handed = handed;
}

-- all that a script prints: the lines of its commands, and at the end the reports of the watchers that are attached
abbrev pub with_reports : Ran → List ℕ
with_reports x = x.text ++ reports x.run.session.seated.seats

unfoldable pub run_text : List Bool → List NamedFiles → List Watching → Followed → List Command → List ℕ
run_text deaf deltas handed f script = with_reports (commands_ran deltas script deaf (begun_with f handed))

-- what may be printed: of each hearing it is free only whether it finds memory
pub record IsRunText (deltas : List NamedFiles) (handed : List Watching) (f : Followed) (script : List Command)
    (text : List ℕ) : Type 0 where
  pub deaf : List Bool
  pub is : text ≡ run_text deaf deltas handed f script

-- and it was appended
pub record RunWasAppended (deltas : List NamedFiles) (handed : List Watching) (f : Followed) (script : List Command)
    (now before : List ℕ) : Type 0 where
  pub text : List ℕ
  pub appended : now ≡ before ++ text
  pub is : IsRunText deltas handed f script text
