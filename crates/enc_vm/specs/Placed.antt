-- Frames whose offsets are places of instructions (ECMA-335 III.1.7.2).
use Rattle.std.specs.Prelude.{◌≡◌, ℕ, Bool, true, ◌||◌, List, [], ◌∷◌, ◌==◌}
use Rattle.std.specs.List.{list_all}
use Rattle.enc_opcodes.specs.Body.{Body}
use Rattle.enc_opcodes.specs.Sound.{begins_at, body_is_sound}
use Rattle.enc_frames.specs.Machine.{World, Frame, Thread, Task, going, ended, trapped}
use Rattle.enc_frames.specs.declared.handler.Reason.{Reason}
use Rattle.enc_frames.specs.declared.handler.Reason.TheVariants as reason
use Rattle.enc_frames.specs.declared.handler.Running.{Running}

-- an instruction begins at the offset, or the code ends there
abbrev pub is_place_in : Body → ℕ → Bool
is_place_in b offset = begins_at b.code offset || offset == b.size

-- and so where a handler goes on by a `leave`
abbrev pub leads_to_place : Body → Reason → Bool
leads_to_place b (reason.Leave goal) = is_place_in b goal
leads_to_place b (reason.Flight flight) = true

abbrev pub lead_to_places : Body → List Running → Bool
lead_to_places b running = list_all (λ (r : Running). leads_to_place b r.reason) running

-- a body is sound by some numbers of rows
abbrev pub IsSoundCode : Body → Type 0
IsSoundCode b = (count : ℕ → ℕ) × (body_is_sound count b ≡ true)

-- a frame holds a sound body, and its offset is a place in it
pub record IsFramePlaced {C : Type 0} (w : World C) (f : Frame C) : Type 0 where
  pub sound : IsSoundCode (w.body f.code)
  pub at : is_place_in (w.body f.code) f.offset ≡ true
  pub leaves : lead_to_places (w.body f.code) f.running ≡ true

-- all of some frames do
abbrev pub AreFramesPlaced : {C : Type 0} → World C → List (Frame C) → Type 0
AreFramesPlaced w [] = Unit {0}
AreFramesPlaced w (f ∷ frames) = IsFramePlaced w f × AreFramesPlaced w frames

-- and those of a task
abbrev pub IsThreadPlaced : {C : Type 0} → World C → Thread C → Type 0
IsThreadPlaced w t = IsFramePlaced w t.top × AreFramesPlaced w t.below

abbrev pub IsTaskPlaced : {C : Type 0} → World C → Task C → Type 0
IsTaskPlaced w (going t) = IsThreadPlaced w t
IsTaskPlaced w ended = Unit {0}
IsTaskPlaced w (trapped x frames) = AreFramesPlaced w frames

-- and those of all tasks
abbrev pub AreTasksPlaced : {C : Type 0} → World C → List (Task C) → Type 0
AreTasksPlaced w [] = Unit {0}
AreTasksPlaced w (t ∷ tasks) = IsTaskPlaced w t × AreTasksPlaced w tasks
