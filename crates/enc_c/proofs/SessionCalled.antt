-- What a spawn and steps of an open session come to.
use Rattle.std.proofs.Common.{◌≡◌, ℕ, ◌+◌, ◌*◌, true, false, List, ◌++◌, length, map, Option, Some, None, inl, refl, sym, ap, ◌∙◌, add-one}
use Rattle.std.proofs.lemmas.List.{map-append}
use Rattle.std.specs.Prelude.{nat_le}
use Rattle.enc_base.specs.declared.token.Token.{Token}
use Rattle.enc_frames.specs.Machine.{PlainCode}
use Rattle.enc_vm.specs.Looks.{state_in}
use Rattle.enc_vm.specs.Step.{Spawning, too_many, no_method, spawn_in}
use Rattle.enc_vm.specs.declared.ends.StepEnd.{StepEnd}
use Rattle.enc_vm.specs.declared.ends.TaskState.{TaskState}
use Rattle.enc_session.specs.Recording.{Recorded, facts_in, spawn_recorded_by, spawn_recorded, steps_recorded}
use Rattle.enc_session.specs.Session.{world_of}
use Rattle.enc_c.specs.SessionCalls.{ChangesAndTells, ChangesOrRunsOut, asked_spawn, asked_steps, facts_below, listed_if}
use Rattle.enc_c.specs.SessionNumbers.{frame_numbers, stepped_numbers}
use Rattle.enc_c.specs.Status.{number_of_status}
use Rattle.enc_session.specs.declared.looks.FrameFacts.{FrameFacts}
use Rattle.enc_c.specs.declared.session_numbers.FrameNumbers.{FrameNumbers}
use Rattle.enc_c.specs.declared.session_numbers.SteppedNumbers.{SteppedNumbers}
use Rattle.enc_c.specs.declared.status.Status.TheVariants.{Done, Short, Absent, Unlike, Limit}

-- there are as many tasks as there can be
pub at_limit : (method : Token) (r new : Recorded) (number task : ℕ) → nat_le (length r.events + 3) r.limit ≡ true
    → spawn_in (world_of r.followed) method r.machine ≡ too_many → new ≡ spawn_recorded method r → number ≡ number_of_status Limit
    → ChangesOrRunsOut number (Some r) (Some new) task task (asked_spawn method r)
unfolding asked_spawn spawn_recorded
at_limit method r new number task room said same is =
    rw (room, said) (inl (is, ap Some (same ∙ ap (λ (x : Spawning PlainCode). spawn_recorded_by method x r) said), refl))

-- the method isn't one with which a task can begin
pub other_method : (method : Token) (r new : Recorded) (number task : ℕ) → nat_le (length r.events + 3) r.limit ≡ true
    → spawn_in (world_of r.followed) method r.machine ≡ no_method → new ≡ spawn_recorded method r → number ≡ number_of_status Unlike
    → ChangesOrRunsOut number (Some r) (Some new) task task (asked_spawn method r)
unfolding asked_spawn spawn_recorded
other_method method r new number task room said same is =
    rw (room, said) (inl (is, ap Some (same ∙ ap (λ (x : Spawning PlainCode). spawn_recorded_by method x r) said), refl))

-- no task has the number
pub task_absent : (task count number : ℕ) (r : Recorded) (told : SteppedNumbers) → state_in r.machine task ≡ None → number ≡ number_of_status Absent
    → ChangesAndTells number (Some r) (Some r) told told (asked_steps task count r)
unfolding asked_steps
task_absent task count number r told none is = rw none (is, refl, refl)

-- the events might pass the limit, were all taken
pub steps_past : (task count number : ℕ) (r : Recorded) (told : SteppedNumbers) (s : TaskState) → state_in r.machine task ≡ Some s
    → nat_le (4 * count) r.limit ≡ false → number ≡ number_of_status Limit
    → ChangesAndTells number (Some r) (Some r) told told (asked_steps task count r)
unfolding asked_steps
steps_past task count number r told s there past is = rw (there, past) (is, refl, refl)

-- the events might pass the limit beside those that nobody has taken
pub steps_short : (task count number : ℕ) (r : Recorded) (told : SteppedNumbers) (s : TaskState) → state_in r.machine task ≡ Some s
    → nat_le (4 * count) r.limit ≡ true → nat_le (length r.events + 4 * count) r.limit ≡ false → number ≡ number_of_status Short
    → ChangesAndTells number (Some r) (Some r) told told (asked_steps task count r)
unfolding asked_steps
steps_short task count number r told s there holds room is = rw (there, holds, room) (is, refl, refl)

-- steps were made
pub steps_done : (task count number ran : ℕ) (how : StepEnd) (r new : Recorded) (old told : SteppedNumbers) (s : TaskState) → state_in r.machine task ≡ Some s
    → nat_le (4 * count) r.limit ≡ true → nat_le (length r.events + 4 * count) r.limit ≡ true → steps_recorded task count r ≡ record { ran = ran; end = how; session = new }
    → number ≡ number_of_status Done → told ≡ stepped_numbers ran (state_in new.machine task)
    → ChangesAndTells number (Some r) (Some new) old told (asked_steps task count r)
unfolding asked_steps
steps_done task count number ran how r new old told s there holds room made is told_is = rw (there, holds, room, made) (is, refl, told_is)

-- a frame more
pub frames_more : (r : Recorded) (task i : ℕ) (frame : Option FrameFacts) (now new : List FrameNumbers) → frame ≡ facts_in r task i
    → now ≡ map frame_numbers (facts_below r task i) → new ≡ now ++ map frame_numbers (listed_if frame)
    → new ≡ map frame_numbers (facts_below r task (i + 1))
unfolding facts_below
frames_more r task i frame now new is before next =
    next ∙ rw (before, is, add-one i) (sym (map-append frame_numbers (facts_below r task i) (listed_if (facts_in r task i))))
