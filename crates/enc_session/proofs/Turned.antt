-- A step, and what comes of it.
use Rattle.std.proofs.Common.{◌≡◌, ◌≤◌, ℕ, zero, suc, Bool, List, [], ◌∷◌, ◌++◌, length, Option, Some, None, option_map, Ok, refl, sym, ap, ◌∙◌, subst, append-nil, arith}
use Rattle.std.specs.Prelude.{IfSome, unwrap_or}
use Rattle.enc_base.specs.declared.token.Token.{Token}
use Rattle.enc_plain.specs.Debug.{PlainPdb}
use Rattle.enc_plain.specs.Module.{Module}
use Rattle.enc_plain.specs.Sound.{IsSound}
use Rattle.enc_versions.specs.StandFor.{AreVersionsOf}
use Rattle.enc_versions.specs.Version.{Version}
use Rattle.enc_vm.specs.Laws.{stepped_meant, StepsMean}
use Rattle.enc_frames.specs.Machine.{PlainCode, Task, MachineState, plain_world, version_world, task_meant, state_meant}
use Rattle.enc_frames.specs.Results.{Shown}
use Rattle.enc_vm.specs.Room.{WritesAtMost}
use Rattle.enc_vm.specs.Step.{Ending, ran, done, stopped, Stepped, step_task, task_at, Spawning, begun, too_many, no_method, spawn_in}
use Rattle.enc_vm.specs.Turns.{MachineTurn, absent, idle, went, turn_by, machine_turn, shown_in, IsTurn, IsSpawn, KeepsSeen}
use Rattle.enc_vm.specs.declared.ends.SpawnEnd.{SpawnEnd}
use Rattle.enc_vm.specs.declared.ends.SpawnEnd.TheVariants as spawned
use Rattle.enc_vm.specs.declared.ends.StepEnd.{StepEnd}
use Rattle.enc_vm.specs.declared.ends.StepEnd.TheVariants as end
use Rattle.enc_vm.specs.declared.seen.Seen.{Seen}
use Rattle.enc_checker.specs.Followed.{Followed}
use Rattle.enc_watch.specs.Audience.{Seated, told_events, AreTold}
use Rattle.enc_watch.specs.declared.event.Event.{Event}
use Rattle.enc_session.proofs.Looked.{task_at_meant}
use Rattle.enc_session.proofs.Passing.{has_passed, nothing_has_passed}
use Rattle.enc_session.specs.Seen.{ending_told}
use Rattle.enc_session.specs.Session.{PlainSession, world_of, with_machine, passed_with, nothing_passed, innermost_method, line_events, step_events, step_lines, turn_passed, step_passed, begun_events, spawn_by, spawn_passed, turn_end, DeltaContents, judged_after, followed_after, applied_as, applied_event, with_followed, apply_passed, HasPassed}
use Rattle.enc_session.specs.declared.applied.Applied.{Applied}

-- a step of which nothing is shown tells nothing
no_line : (task : ℕ) (method : Option Token) → line_events task method None ≡ []
no_line task None = refl
no_line task (Some m) = refl

silent_events : (task : ℕ) (method : Option Token) (seen nothing : Seen) → seen ≡ nothing → nothing ≡ record { line = None; entered = None; left = None; wrote = None }
    → step_events task method ran seen.line (shown_in seen) ≡ []
unfolding step_events
silent_events task method seen nothing kept none = rw (kept, none, no_line task method) refl

silent_lines : {C : Type 0} (task : ℕ) (s : MachineState C) (seen nothing : Seen) → seen ≡ nothing → nothing ≡ record { line = None; entered = None; left = None; wrote = None }
    → step_lines task ran s (shown_in seen) ≡ []
unfolding step_lines
silent_lines task s seen nothing kept none = rw (kept, none) refl

nothing_is : (deaf : List Bool) (s : PlainSession) → nothing_passed deaf s ≡ passed_with [] [] deaf s
unfolding passed_with told_events
nothing_is deaf s = refl

-- nothing was told
silent : (task : ℕ) (said : MachineTurn PlainCode) (seen nothing : Seen) (new old : PlainSession) (now between before : List ℕ)
    → machine_turn (world_of old.followed) task old.machine ≡ said → ((deaf : List Bool) → turn_passed task said deaf old ≡ nothing_passed deaf old)
    → new.machine ≡ old.machine → new.followed ≡ old.followed → new.seated.given ≡ old.seated.given
    → seen ≡ nothing → nothing ≡ record { line = None; entered = None; left = None; wrote = None }
    → between ≡ before ++ step_lines task ran new.machine (shown_in seen)
    → AreTold (step_events task (innermost_method old.machine task) ran seen.line (shown_in seen)) new.seated.seats old.seated.seats now between
    → HasPassed (step_passed task) new old now before
unfolding step_passed
silent task said seen nothing new old now between before is says same followed given kept none printed told =
    has_passed (step_passed task) [] [] old new old now between before
    (λ deaf. ap (λ (x : MachineTurn PlainCode). turn_passed task x deaf old) is ∙ says deaf ∙ nothing_is deaf old)
    followed same given (printed ∙ ap (λ (t : List ℕ). before ++ t) (silent_lines task new.machine seen nothing kept none))
    (subst (λ (events : List Event). AreTold events new.seated.seats old.seated.seats now between) (silent_events task (innermost_method old.machine task) seen nothing kept none) told)

-- a step was made
loud : (task : ℕ) (how : Ending) (seen : Seen) (new old : PlainSession) (now between before : List ℕ)
    → machine_turn (world_of old.followed) task old.machine ≡ went how new.machine seen.line (shown_in seen)
    → new.followed ≡ old.followed → new.seated.given ≡ old.seated.given
    → between ≡ before ++ step_lines task how new.machine (shown_in seen)
    → AreTold (step_events task (innermost_method old.machine task) how seen.line (shown_in seen)) new.seated.seats old.seated.seats now between
    → HasPassed (step_passed task) new old now before
unfolding step_passed
loud task how seen new old now between before is followed given printed told =
    has_passed (step_passed task) (step_events task (innermost_method old.machine task) how seen.line (shown_in seen)) (step_lines task how new.machine (shown_in seen))
    (with_machine new.machine old) new old now between before
    (λ deaf. ap (λ (x : MachineTurn PlainCode). turn_passed task x deaf old) is) followed refl given printed told

pub step_has_passed : (task : ℕ) (how : StepEnd) (seen nothing : Seen) (new old : PlainSession) (now between before : List ℕ)
    → IsTurn (Ok how) seen new.machine old.machine (machine_turn (world_of old.followed) task old.machine)
    → KeepsSeen (Ok how) seen nothing → nothing ≡ record { line = None; entered = None; left = None; wrote = None }
    → new.followed ≡ old.followed → new.seated.given ≡ old.seated.given
    → between ≡ before ++ step_lines task (ending_told how) new.machine (shown_in seen)
    → AreTold (step_events task (innermost_method old.machine task) (ending_told how) seen.line (shown_in seen)) new.seated.seats old.seated.seats now between
    → HasPassed (step_passed task) new old now before
step_has_passed task end.Absent seen nothing new old now between before turn kept none followed given printed told =
    silent task absent seen nothing new old now between before turn.0 (λ deaf. refl) turn.1 followed given kept none printed told
step_has_passed task end.Idle seen nothing new old now between before turn kept none followed given printed told =
    silent task idle seen nothing new old now between before turn.0 (λ deaf. refl) turn.1 followed given kept none printed told
step_has_passed task end.Ran seen nothing new old now between before turn kept none followed given printed told =
    loud task ran seen new old now between before turn followed given printed told
step_has_passed task end.Ended seen nothing new old now between before turn kept none followed given printed told =
    loud task done seen new old now between before turn followed given printed told
step_has_passed task (end.Trapped x) seen nothing new old now between before turn kept none followed given printed told =
    loud task (stopped x) seen new old now between before turn followed given printed told

-- what it is answered
pub answered : {C : Type 0} (how : StepEnd) (seen : Seen) (new old : MachineState C) (said : MachineTurn C) → IsTurn (Ok how) seen new old said → how ≡ turn_end said
answered end.Absent seen new old said turn = sym (ap turn_end turn.0)
answered end.Idle seen new old said turn = sym (ap turn_end turn.0)
answered end.Ran seen new old said turn = sym (ap turn_end turn)
answered end.Ended seen new old said turn = sym (ap turn_end turn)
answered (end.Trapped x) seen new old said turn = sym (ap turn_end turn)

-- a step writes no more than there is room for
wrote_within : {C : Type 0} (n : ℕ) (how : Ending) (new : MachineState C) (line : Option ℕ) (shown : Shown) → IfSome shown.wrote (λ (units : List ℕ). length units ≤ n)
    → length (unwrap_or shown.wrote []) ≤ n
wrote_within n how new line shown h = by shown.wrote h
  where
    by : (o : Option (List ℕ)) → IfSome o (λ (units : List ℕ). length units ≤ n) → length (unwrap_or o []) ≤ n
    by None h = omega arith
    by (Some units) h = h

turn_within : {C : Type 0} (n : ℕ) (how : Ending) (new : MachineState C) (line : Option ℕ) (seen : Seen) (said : MachineTurn C) → WritesAtMost n said
    → said ≡ went how new line (shown_in seen) → length (unwrap_or seen.wrote []) ≤ n
turn_within n how new line seen said within is = wrote_within n how new line (shown_in seen) (subst (WritesAtMost n) is within)

pub within_room : {C : Type 0} (n : ℕ) (how : StepEnd) (seen nothing : Seen) (new old : MachineState C) (said : MachineTurn C) → WritesAtMost n said
    → IsTurn (Ok how) seen new old said → KeepsSeen (Ok how) seen nothing → nothing ≡ record { line = None; entered = None; left = None; wrote = None }
    → length (unwrap_or seen.wrote []) ≤ n
within_room n end.Absent seen nothing new old said within turn kept none = rw (kept, none) (omega arith)
within_room n end.Idle seen nothing new old said within turn kept none = rw (kept, none) (omega arith)
within_room n end.Ran seen nothing new old said within turn kept none = turn_within n ran new seen.line seen said within turn
within_room n end.Ended seen nothing new old said within turn kept none = turn_within n done new seen.line seen said within turn
within_room n (end.Trapped x) seen nothing new old said within turn kept none = turn_within n (stopped x) new seen.line seen said within turn

-- the plain machine's step writes as much
step_within : (users : ℕ → Option (List ℕ)) (n i : ℕ) (s : MachineState Version) (o : Option (Stepped Version)) → WritesAtMost n (turn_by i s (Some o))
    → WritesAtMost n (turn_by i (state_meant users s) (Some (option_map (stepped_meant users) o)))
step_within users n i s None h = tt
step_within users n i s (Some x) h = h

task_within : (users : ℕ → Option (List ℕ)) (m : Module) (debug : PlainPdb) (methods : List (Option Version)) (n i : ℕ) (s : MachineState Version) (o : Option (Task Version))
    → StepsMean → IsSound m → AreVersionsOf users m debug methods
    → WritesAtMost n (turn_by i s (option_map (λ (t : Task Version). step_task (version_world users m methods) s.shared t) o))
    → WritesAtMost n (turn_by i (state_meant users s) (option_map (λ (t : Task PlainCode). step_task (plain_world m debug) s.shared t) (option_map (task_meant users) o)))
task_within users m debug methods n i s None law sound are h = tt
task_within users m debug methods n i s (Some t) law sound are h =
    rw (law users m debug methods s.shared t sound are) (step_within users n i s (step_task (version_world users m methods) s.shared t) h)

pub plain_within : (users : ℕ → Option (List ℕ)) (m : Module) (debug : PlainPdb) (methods : List (Option Version)) (n task : ℕ) (s : MachineState Version)
    → StepsMean → IsSound m → AreVersionsOf users m debug methods
    → WritesAtMost n (machine_turn (version_world users m methods) task s) → WritesAtMost n (machine_turn (plain_world m debug) task (state_meant users s))
unfolding machine_turn
plain_within users m debug methods n zero s law sound are h = tt
plain_within users m debug methods n (suc i) s law sound are h =
    rw (task_at_meant users s (suc i)) (task_within users m debug methods n i s (task_at s (suc i)) law sound are h)

-- a spawn
pub spawn_has_passed : (method : Token) (n : ℕ) (new old : PlainSession) (now between before : List ℕ)
    → spawn_in (world_of old.followed) method old.machine ≡ begun n new.machine → new.followed ≡ old.followed → new.seated.given ≡ old.seated.given
    → between ≡ before → AreTold (begun_events method n new.machine) new.seated.seats old.seated.seats now between
    → HasPassed (spawn_passed method) new old now before
unfolding spawn_passed
spawn_has_passed method n new old now between before is followed given same told =
    has_passed (spawn_passed method) (begun_events method n new.machine) [] (with_machine new.machine old) new old now between before
    (λ deaf. ap (λ (x : Spawning PlainCode). spawn_by method x deaf old) is) followed refl given (same ∙ sym (append-nil before)) told

pub no_spawn_passed : (method : Token) (said : Spawning PlainCode) (new old : PlainSession) (now before : List ℕ)
    → spawn_in (world_of old.followed) method old.machine ≡ said → ((deaf : List Bool) → spawn_by method said deaf old ≡ nothing_passed deaf old)
    → new ≡ old → now ≡ before → HasPassed (spawn_passed method) new old now before
unfolding spawn_passed
no_spawn_passed method said new old now before is says same kept =
    nothing_has_passed (spawn_passed method) new old now before (λ deaf. ap (λ (x : Spawning PlainCode). spawn_by method x deaf old) is ∙ says deaf) same kept

-- where there is no new task, nothing happened
abbrev session_of : Followed → MachineState PlainCode → Seated → PlainSession
session_of f m s = record { followed = f; machine = m; seated = s }

session_same : (new old : PlainSession) → new.followed ≡ old.followed → new.machine ≡ old.machine → new.seated ≡ old.seated → new ≡ old
session_same new old followed machine seated =
    ap (λ (f : Followed). session_of f new.machine new.seated) followed
    ∙ ap (λ (m : MachineState PlainCode). session_of old.followed m new.seated) machine ∙ ap (λ (s : Seated). session_of old.followed old.machine s) seated

pub no_task_passed : (method : Token) (how : SpawnEnd) (new old : PlainSession) (now before : List ℕ) → ((n : ℕ) → how ≡ spawned.Task n → ⊥)
    → IsSpawn (Ok how) new.machine old.machine (spawn_in (world_of old.followed) method old.machine)
    → new.followed ≡ old.followed → new.seated ≡ old.seated → now ≡ before → HasPassed (spawn_passed method) new old now before
no_task_passed method (spawned.Task n) new old now before not is followed seated kept = absurd (not n refl)
no_task_passed method spawned.Limit new old now before not is followed seated kept =
    no_spawn_passed method too_many new old now before is.0 (λ deaf. refl) (session_same new old followed is.1 seated) kept
no_task_passed method spawned.Method new old now before not is followed seated kept =
    no_spawn_passed method no_method new old now before is.0 (λ deaf. refl) (session_same new old followed is.1 seated) kept

-- a delta
pub apply_has_passed : (files : DeltaContents) (new old : PlainSession) (a : Applied) (now between before : List ℕ)
    → a ≡ applied_as (judged_after old.followed files) old.followed → new.followed ≡ followed_after (judged_after old.followed files) old.followed
    → new.machine ≡ old.machine → new.seated.given ≡ old.seated.given → between ≡ before
    → AreTold (applied_event a ∷ []) new.seated.seats old.seated.seats now between
    → HasPassed (apply_passed files) new old now before
unfolding apply_passed
apply_has_passed files new old a now between before is followed machine given same told =
    has_passed (apply_passed files) (applied_event (applied_as (judged_after old.followed files) old.followed) ∷ []) []
    (with_followed (followed_after (judged_after old.followed files) old.followed) old) new old now between before (λ deaf. refl) followed machine given
    (same ∙ sym (append-nil before))
    (subst (λ (x : Applied). AreTold (applied_event x ∷ []) new.seated.seats old.seated.seats now between) is told)
