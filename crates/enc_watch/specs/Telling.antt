-- For the contracts of private functions: an event that is being told.
use Rattle.std.specs.Prelude.{◌≡◌, ℕ, Bool, true, false, List, ◌++◌, slice_get, slice_set, Some, Result, Ok, Err}
use Rattle.enc_watch.specs.declared.event.Event.{Event}
use Rattle.enc_watch.specs.declared.event.HearError.{HearError}
use Rattle.enc_watch.specs.declared.event.HearError.TheVariants.{Memory, Failed}
use Rattle.enc_watch.specs.Audience.{Seat, Heard, hearing, told_event}

-- what came of a hearing, and the watcher behind it
abbrev pub IsHearing : Result Unit HearError → Event → Seat → Seat → Type 0
IsHearing (Ok _) event new old = (new.number ≡ old.number) × (hearing event false old.watching ≡ Ok new.watching)
IsHearing (Err Failed) event new old =
    (new.number ≡ old.number) × ((deaf : Bool) → hearing event deaf old.watching ≡ Err Failed)
IsHearing (Err Memory) event new old = (new.number ≡ old.number) × (hearing event true old.watching ≡ Err Memory)

-- the watcher at a place was told, and no other
pub record IsHeardAt (result : Result Unit HearError) (event : Event) (i : ℕ) (new old : List Seat) : Type 0 where
  pub before : Seat
  pub after : Seat
  pub there : slice_get old i ≡ Some before
  pub set : new ≡ slice_set old i after
  pub hearing : IsHearing result event after before

-- watchers and text that come first
abbrev pub in_front : List Seat → List ℕ → Heard → Heard
in_front kept text h = record { seats = kept ++ h.seats; text = text ++ h.text; deaf = h.deaf }

-- an event was told to the first of some watchers: those of them that are left, the others, and the text with the
-- lines of those that are gone
pub record IsHalfTold (event : Event) (kept rest old : List Seat) (now before : List ℕ) : Type 0 where
  pub deaf : List Bool
  pub text : List ℕ
  pub appended : now ≡ before ++ text
  pub told : (more : List Bool) → told_event event (deaf ++ more) old ≡ in_front kept text (told_event event more rest)

-- it was told to all
pub record IsEventTold (event : Event) (new old : List Seat) (now before : List ℕ) : Type 0 where
  pub deaf : List Bool
  pub text : List ℕ
  pub appended : now ≡ before ++ text
  pub told : (more : List Bool) → told_event event (deaf ++ more) old ≡ record { seats = new; text = text; deaf = more }
