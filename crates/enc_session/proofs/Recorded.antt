-- What is recorded of a spawn, a step, a delta and a remap.
use Rattle.std.proofs.Common.{◌≡◌, ◌≤◌, ℕ, ◌+◌, ◌-◌, true, false, List, [], ◌∷◌, ◌++◌, length, map, reverse, Option, Some, None, Result, Ok, Err, OnOk, refl, sym, ap, ◌∙◌, arith, length-append}
use Rattle.std.proofs.lemmas.List.{length-map, length-reverse}
use Rattle.std.specs.Prelude.{Vec, slice_set}
use Rattle.std.specs.declared.alloc.AllocError.{AllocError}
use Rattle.std.specs.declared.alloc.Global.{Global}
use Rattle.enc_base.specs.declared.refusal.Refusal.{Refusal}
use Rattle.enc_base.specs.declared.token.Token.{Token}
use Rattle.enc_checker.specs.Check.{Accepted}
use Rattle.enc_checker.specs.Followed.{Followed}
use Rattle.enc_frames.specs.Machine.{PlainCode, Frame, MachineState}
use Rattle.enc_frames.specs.Results.{Shown}
use Rattle.enc_remap.specs.Remap.{Remapping, moved}
use Rattle.enc_remap.specs.Seen.{IsRemap}
use Rattle.enc_remap.specs.declared.remapped.Remapped.TheVariants as remapped
use Rattle.enc_vm.specs.Looks.{frames_in}
use Rattle.enc_vm.specs.Step.{Ending, ran, done, stopped, Spawning, begun, spawn_in}
use Rattle.enc_vm.specs.Turns.{MachineTurn, went, machine_turn, shown_in, IsTurn, IsSpawn}
use Rattle.enc_vm.specs.declared.ends.StepEnd.{StepEnd}
use Rattle.enc_vm.specs.declared.ends.StepEnd.TheVariants as end
use Rattle.enc_vm.specs.declared.ends.SpawnEnd.{SpawnEnd}
use Rattle.enc_vm.specs.declared.ends.SpawnEnd.TheVariants as spawned
use Rattle.enc_vm.specs.declared.seen.Seen.{Seen}
use Rattle.enc_watch.specs.declared.event.Event.{Event}
use Rattle.enc_session.proofs.GenerationsKept.{step_has_generations}
use Rattle.enc_session.specs.Recording.{Recorded, HaveGenerations, generations_now, generations_of, with_first_generation, body_generation, generations_now, spawn_recorded_by, spawn_recorded, turn_recorded, step_recorded, judged_recorded, apply_recorded, remapped_in, remap_recorded_by, remap_recorded}
use Rattle.enc_session.specs.RecordingSeen.{HaveRoomTo, is_made}
use Rattle.enc_session.specs.Seen.{ending_told}
use Rattle.enc_session.specs.Session.{world_of, begun_events, entered_event, innermost_method, line_events, entered_events, left_events, ending_events, step_events, step_lines, DeltaContents, judged_after}

-- the same by its parts
recorded_same : (new old : Recorded) → new.followed ≡ old.followed → new.machine ≡ old.machine → new.events ≡ old.events → new.text ≡ old.text
    → new.generations ≡ old.generations → new.limit ≡ old.limit → new ≡ old
recorded_same new old followed machine events text generations limit =
    λ i. record { followed = followed i; machine = machine i; events = events i; text = text i; generations = generations i; limit = limit i }

-- a task begins with at most three events
pub begun_few : {C : Type 0} (method : Token) (n : ℕ) (u : MachineState C) → length (frames_in u n) ≤ 2 → length (begun_events method n u) ≤ 3
begun_few method n u few =
    let e : length (map (entered_event n) (reverse (frames_in u n))) ≡ length (frames_in u n) =
    length-map (reverse (frames_in u n)) (entered_event n) ∙ length-reverse (frames_in u n) in omega (arith, e, few)

-- and a step tells at most four
few_lines : (task : ℕ) (method : Option Token) (line : Option ℕ) → length (line_events task method line) ≤ 1
few_lines task None line = omega arith
few_lines task (Some method) None = omega arith
few_lines task (Some method) (Some line) = omega arith

few_entered : (task : ℕ) (method : Option Token) → length (entered_events task method) ≤ 1
few_entered task None = omega arith
few_entered task (Some method) = omega arith

few_left : (task : ℕ) (method : Option Token) → length (left_events task method) ≤ 1
few_left task None = omega arith
few_left task (Some method) = omega arith

few_ends : (task : ℕ) (how : Ending) → length (ending_events task how) ≤ 1
few_ends task ran = omega arith
few_ends task done = omega arith
few_ends task (stopped x) = omega arith

four_few : (a b c d : List Event) → length a ≤ 1 → length b ≤ 1 → length c ≤ 1 → length d ≤ 1 → length (a ++ b ++ c ++ d) ≤ 4
four_few a b c d fa fb fc fd =
    let e : length (a ++ b ++ c ++ d) ≡ length (a ++ b ++ c) + length d = length-append (a ++ b ++ c) d in
    let f : length (a ++ b ++ c) ≡ length (a ++ b) + length c = length-append (a ++ b) c in
    let g : length (a ++ b) ≡ length a + length b = length-append a b in omega (arith, e, f, g, fa, fb, fc, fd)

pub step_few : (task : ℕ) (method : Option Token) (how : Ending) (line : Option ℕ) (shown : Shown) → length (step_events task method how line shown) ≤ 4
unfolding step_events
step_few task method how line shown =
    four_few (line_events task method line) (entered_events task shown.entered) (left_events task shown.left) (ending_events task how)
    (few_lines task method line) (few_entered task shown.entered) (few_left task shown.left) (few_ends task how)

-- generations by equal generations
generations_same : {C : Type 0} (f g : Token → ℕ) (frames : List (Frame C)) (generations : List ℕ) → ((t : Token) → f t ≡ g t) → generations_now f frames generations ≡ generations_now g frames generations
generations_same f g frames generations same = ap (λ (h : Token → ℕ). generations_now h frames generations) (λ i t. same t i)

-- a spawn
pub spawn_is_recorded : (method : Token) (n : ℕ) (new old : Recorded) (generation : Token → ℕ)
    → spawn_in (world_of old.followed) method old.machine ≡ begun n new.machine → ((t : Token) → generation t ≡ body_generation old.followed.deltas t)
    → new.followed ≡ old.followed → new.events ≡ old.events ++ begun_events method n new.machine → new.text ≡ old.text
    → new.generations ≡ old.generations ++ generations_now generation (frames_in new.machine n) [] ∷ [] → new.limit ≡ old.limit → new ≡ spawn_recorded method old
unfolding spawn_recorded
spawn_is_recorded method n new old generation is said followed events text generations limit =
    recorded_same new (spawn_recorded_by method (begun n new.machine) old) followed refl events text
    (generations ∙ ap (λ (ds : List ℕ). old.generations ++ ds ∷ []) (generations_same generation (body_generation old.followed.deltas) (frames_in new.machine n) [] said)) limit
    ∙ sym (ap (λ (x : Spawning PlainCode). spawn_recorded_by method x old) is)

pub no_task_recorded : (method : Token) (how : SpawnEnd) (new old : Recorded) → ((n : ℕ) → how ≡ spawned.Task n → ⊥)
    → IsSpawn (Ok how) new.machine old.machine (spawn_in (world_of old.followed) method old.machine)
    → new.followed ≡ old.followed → new.events ≡ old.events → new.text ≡ old.text → new.generations ≡ old.generations → new.limit ≡ old.limit
    → new ≡ spawn_recorded method old
unfolding spawn_recorded
no_task_recorded method (spawned.Task n) new old not is followed events text generations limit = absurd (not n refl)
no_task_recorded method spawned.Limit new old not is followed events text generations limit =
    recorded_same new old followed is.1 events text generations limit ∙ sym (ap (λ (x : Spawning PlainCode). spawn_recorded_by method x old) is.0)
no_task_recorded method spawned.Method new old not is followed events text generations limit =
    recorded_same new old followed is.1 events text generations limit ∙ sym (ap (λ (x : Spawning PlainCode). spawn_recorded_by method x old) is.0)

-- a step that was made
made : (task : ℕ) (how : Ending) (seen : Seen) (new old : Recorded) (generation : Token → ℕ)
    → machine_turn (world_of old.followed) task old.machine ≡ went how new.machine seen.line (shown_in seen)
    → ((t : Token) → generation t ≡ body_generation old.followed.deltas t) → new.followed ≡ old.followed
    → new.events ≡ old.events ++ step_events task (innermost_method old.machine task) how seen.line (shown_in seen)
    → new.text ≡ old.text ++ step_lines task how new.machine (shown_in seen)
    → new.generations ≡ slice_set old.generations (task - 1) (generations_now generation (frames_in new.machine task) (generations_of old.generations task)) → new.limit ≡ old.limit
    → new ≡ step_recorded task old
unfolding step_recorded
made task how seen new old generation is said followed events text generations limit =
    recorded_same new (turn_recorded task (went how new.machine seen.line (shown_in seen)) old) followed refl events text
    (generations
    ∙ ap (slice_set old.generations (task - 1))
    (generations_same generation (body_generation old.followed.deltas) (frames_in new.machine task) (generations_of old.generations task) said)) limit
    ∙ sym (ap (λ (x : MachineTurn PlainCode). turn_recorded task x old) is)

pub step_is_recorded : (task : ℕ) (how : StepEnd) (seen : Seen) (new old : Recorded) (generation : Token → ℕ) → is_made how ≡ true
    → IsTurn (Ok how) seen new.machine old.machine (machine_turn (world_of old.followed) task old.machine)
    → ((t : Token) → generation t ≡ body_generation old.followed.deltas t) → new.followed ≡ old.followed
    → new.events ≡ old.events ++ step_events task (innermost_method old.machine task) (ending_told how) seen.line (shown_in seen)
    → new.text ≡ old.text ++ step_lines task (ending_told how) new.machine (shown_in seen)
    → new.generations ≡ slice_set old.generations (task - 1) (generations_now generation (frames_in new.machine task) (generations_of old.generations task)) → new.limit ≡ old.limit
    → new ≡ step_recorded task old
step_is_recorded task end.Absent seen new old generation not turn said followed events text generations limit = absurd cc
step_is_recorded task end.Idle seen new old generation not turn said followed events text generations limit = absurd cc
step_is_recorded task end.Ran seen new old generation is turn said followed events text generations limit =
    made task ran seen new old generation turn said followed events text generations limit
step_is_recorded task end.Ended seen new old generation is turn said followed events text generations limit =
    made task done seen new old generation turn said followed events text generations limit
step_is_recorded task (end.Trapped x) seen new old generation is turn said followed events text generations limit =
    made task (stopped x) seen new old generation turn said followed events text generations limit

-- and each frame has its generation
pub made_has_generations : (task : ℕ) (how : StepEnd) (seen : Seen) (f : Followed) (s u : MachineState PlainCode) (generation : Token → ℕ) (generations new : List (List ℕ)) → is_made how ≡ true
    → IsTurn (Ok how) seen u s (machine_turn (world_of f) task s) → new ≡ slice_set generations (task - 1) (generations_now generation (frames_in u task) (generations_of generations task))
    → HaveGenerations s generations → HaveGenerations u new
made_has_generations task end.Absent seen f s u generation generations new not turn next are = absurd cc
made_has_generations task end.Idle seen f s u generation generations new not turn next are = absurd cc
made_has_generations task end.Ran seen f s u generation generations new is turn next are = step_has_generations (world_of f) generation task s u generations new ran seen.line (shown_in seen) turn next are
made_has_generations task end.Ended seen f s u generation generations new is turn next are = step_has_generations (world_of f) generation task s u generations new done seen.line (shown_in seen) turn next are
made_has_generations task (end.Trapped x) seen f s u generation generations new is turn next are =
    step_has_generations (world_of f) generation task s u generations new (stopped x) seen.line (shown_in seen) turn next are

pub none_made_has_generations : (task : ℕ) (how : StepEnd) (seen : Seen) (f : Followed) (s u : MachineState PlainCode) (generations : List (List ℕ)) → is_made how ≡ false
    → IsTurn (Ok how) seen u s (machine_turn (world_of f) task s) → HaveGenerations s generations → HaveGenerations u generations
none_made_has_generations task end.Absent seen f s u generations not turn are = rw turn.1 are
none_made_has_generations task end.Idle seen f s u generations not turn are = rw turn.1 are
none_made_has_generations task end.Ran seen f s u generations not turn are = absurd cc
none_made_has_generations task end.Ended seen f s u generations not turn are = absurd cc
none_made_has_generations task (end.Trapped x) seen f s u generations not turn are = absurd cc

pub no_task_has_generations : (how : SpawnEnd) (s u : MachineState PlainCode) (said : Spawning PlainCode) (generations : List (List ℕ)) → ((n : ℕ) → how ≡ spawned.Task n → ⊥)
    → IsSpawn (Ok how) u s said → HaveGenerations s generations → HaveGenerations u generations
no_task_has_generations (spawned.Task n) s u said generations not is are = absurd (not n refl)
no_task_has_generations spawned.Limit s u said generations not is are = rw is.1 are
no_task_has_generations spawned.Method s u said generations not is are = rw is.1 are

-- and where none was
pub no_step_recorded : (task : ℕ) (how : StepEnd) (seen : Seen) (new old : Recorded) → is_made how ≡ false
    → IsTurn (Ok how) seen new.machine old.machine (machine_turn (world_of old.followed) task old.machine)
    → new.followed ≡ old.followed → new.events ≡ old.events → new.text ≡ old.text → new.generations ≡ old.generations → new.limit ≡ old.limit
    → new ≡ step_recorded task old
unfolding step_recorded
no_step_recorded task end.Absent seen new old not turn followed events text generations limit =
    recorded_same new old followed turn.1 events text generations limit ∙ sym (ap (λ (x : MachineTurn PlainCode). turn_recorded task x old) turn.0)
no_step_recorded task end.Idle seen new old not turn followed events text generations limit =
    recorded_same new old followed turn.1 events text generations limit ∙ sym (ap (λ (x : MachineTurn PlainCode). turn_recorded task x old) turn.0)
no_step_recorded task end.Ran seen new old not turn followed events text generations limit = absurd cc
no_step_recorded task end.Ended seen new old not turn followed events text generations limit = absurd cc
no_step_recorded task (end.Trapped x) seen new old not turn followed events text generations limit = absurd cc

-- a delta
pub apply_is_recorded : (files : DeltaContents) (said : Result Accepted Refusal) (new old : Recorded) → judged_after old.followed files ≡ said
    → new ≡ judged_recorded said old → new ≡ apply_recorded files old
unfolding apply_recorded
apply_is_recorded files said new old answer is = is ∙ sym (ap (λ (x : Result Accepted Refusal). judged_recorded x old) answer)

pub apply_if_recorded : {T : Type 0} (files : DeltaContents) (said : Result Accepted Refusal) (r : Result T AllocError) (new old : Recorded)
    → judged_after old.followed files ≡ said → OnOk r (new ≡ judged_recorded said old) → OnOk r (new ≡ apply_recorded files old)
apply_if_recorded files said (Ok x) new old answer is = apply_is_recorded files said new old answer is
apply_if_recorded files said (Err e) new old answer is = tt

-- a remap
pub remap_is_recorded : (task : ℕ) (pairs : List (ℕ × ℕ)) (method : Token) (from to : ℕ) (new old : Recorded) (generation : Token → ℕ) (one : ℕ)
    → IsRemap (Ok (remapped.Moved method from to)) new.machine old.machine (remapped_in task pairs old)
    → ((t : Token) → generation t ≡ body_generation old.followed.deltas t) → one ≡ generation method → new.followed ≡ old.followed
    → new.events ≡ old.events → new.text ≡ old.text → new.generations ≡ slice_set old.generations (task - 1) (with_first_generation one (generations_of old.generations task))
    → new.limit ≡ old.limit → new ≡ remap_recorded task pairs old
unfolding remap_recorded
remap_is_recorded task pairs method from to new old generation one is said at followed events text generations limit =
    recorded_same new (remap_recorded_by task (moved method from to new.machine) old) followed refl events text
    (generations ∙ ap (λ (d : ℕ). slice_set old.generations (task - 1) (with_first_generation d (generations_of old.generations task))) (at ∙ said method)) limit
    ∙ sym (ap (λ (x : Remapping PlainCode). remap_recorded_by task x old) is)

pub no_remap_recorded : (task : ℕ) (pairs : List (ℕ × ℕ)) (number : ℕ) (new old : Recorded)
    → IsRemap (Ok (remapped.Refused number)) new.machine old.machine (remapped_in task pairs old) → new.followed ≡ old.followed
    → new.events ≡ old.events → new.text ≡ old.text → new.generations ≡ old.generations → new.limit ≡ old.limit → new ≡ remap_recorded task pairs old
unfolding remap_recorded
no_remap_recorded task pairs number new old is followed events text generations limit =
    recorded_same new old followed is.1 events text generations limit ∙ sym (ap (λ (x : Remapping PlainCode). remap_recorded_by task x old) is.0)

-- more events have room
pub have_room : (limit : ℕ) (new old : Vec Event Global) (more : List Event) → new.items ≡ old.items ++ more → old.cap ≤ new.cap → HaveRoomTo limit old
    → length old.items + length more ≤ limit → HaveRoomTo limit new
have_room limit new old more is kept room within =
    let e : length new.items ≡ length old.items + length more = ap length is ∙ length-append old.items more in
    let room_before = room.room in
    record { room = omega (arith, kept, room_before); few = omega (arith, e, within) }

pub more_few : (new old more : List Event) (n : ℕ) → new ≡ old ++ more → length more ≤ n → length new ≤ length old + n
more_few new old more n is few = let e : length new ≡ length old + length more = ap length is ∙ length-append old more in omega (arith, e, few)
