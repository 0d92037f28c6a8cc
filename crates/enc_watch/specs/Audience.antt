-- Watchers that are attached: what each hears, what is said of one that fails, and what all report at the end.
use Rattle.std.specs.Prelude.{◌≡◌, ℕ, ◌+◌, Bool, true, false, List, [], ◌∷◌, ◌++◌, length, drop, Option, Some, None, Result, Ok, Err, codes, decimal, flat_map, nat_le, ◌==◌, if◌then◌else◌}
use Rattle.enc_watch.specs.declared.event.Event.{Event}
use Rattle.enc_watch.specs.declared.event.HearError.{HearError}
use Rattle.enc_watch.specs.declared.event.HearError.TheVariants.{Memory, Failed}
use Rattle.enc_watch.specs.declared.event.WatchKind.{WatchKind}
use Rattle.enc_watch.specs.declared.event.WatchKind.TheVariants as kind
use Rattle.enc_watch.specs.Watched.{report_of}

-- a watcher: how it reports, after how many events it fails, and what it heard
pub record Watching : Type 0 where
  pub kind : WatchKind
  pub limit : Option ℕ
  pub heard : List Event

-- one that is attached, with its number
pub record Seat : Type 0 where
  pub number : ℕ
  pub watching : Watching

-- those that are attached, in order of number, and how many numbers were given
pub record Seated : Type 0 where
  pub seats : List Seat
  pub given : ℕ

-- a line that tells of the watcher with a number
abbrev pub line_front : ℕ → List ℕ
line_front number = codes "watcher " ++ decimal number ++ 0x20 ∷ []

unfoldable pub watcher_line : ℕ → List ℕ → List ℕ
watcher_line number said = line_front number ++ said ++ 0x0a ∷ []

-- why it is gone
abbrev pub gone_text : HearError → List ℕ
gone_text Failed = codes "failed"
gone_text Memory = codes "out of memory"

abbrev pub fault_line : ℕ → HearError → List ℕ
fault_line number fault = watcher_line number (gone_text fault)

-- its limit is reached
abbrev pub has_reached : Option ℕ → List Event → Bool
has_reached None heard = false
has_reached (Some n) heard = nat_le n (length heard)

-- an event more
abbrev pub with_event : Event → Watching → Watching
with_event event w = record { kind = w.kind; limit = w.limit; heard = w.heard ++ event ∷ [] }

-- what a watcher makes of an event: it fails where its limit is reached, and else hears it, where it finds memory
abbrev pub hearing : Event → Bool → Watching → Result Watching HearError
hearing event deaf w = if has_reached w.limit w.heard then Err Failed else if deaf then Err Memory
    else Ok (with_event event w)

-- the watchers that are left, the lines of those that are gone, and which of the hearings behind these find no memory
pub record Heard : Type 0 where
  pub seats : List Seat
  pub text : List ℕ
  pub deaf : List Bool

-- whether the next hearing finds no memory; where nothing is said it finds some
abbrev pub is_deaf : List Bool → Bool
is_deaf [] = false
is_deaf (b ∷ rest) = b

abbrev pub behind_seat : ℕ → Result Watching HearError → Heard → Heard
behind_seat number (Ok w) h = record {
  seats = record { number = number; watching = w } ∷ h.seats;
  text = h.text;
  deaf = h.deaf;
}
behind_seat number (Err fault) h = record { seats = h.seats; text = fault_line number fault ++ h.text; deaf = h.deaf }

-- an event told to all, in order of number; one that doesn't hear it is gone
unfoldable pub told_event : Event → List Bool → List Seat → Heard
told_event event deaf [] = record { seats = []; text = []; deaf = deaf }
told_event event deaf (s ∷ seats) =
    behind_seat s.number (hearing event (is_deaf deaf) s.watching) (told_event event (drop 1 deaf) seats)

-- text that comes first
abbrev pub behind_text : List ℕ → Heard → Heard
behind_text text h = record { seats = h.seats; text = text ++ h.text; deaf = h.deaf }

-- events told in order
unfoldable pub told_events : List Event → List Bool → List Seat → Heard
told_events [] deaf seats = record { seats = seats; text = []; deaf = deaf }
told_events (event ∷ events) deaf seats =
    behind_text (told_event event deaf seats).text
    (told_events events (told_event event deaf seats).deaf (told_event event deaf seats).seats)

-- they were told, and the lines of those that are gone were appended: of each hearing it is free only whether it
-- found memory
pub record AreTold (events : List Event) (new old : List Seat) (now before : List ℕ) : Type 0 where
  pub deaf : List Bool
  pub text : List ℕ
  pub appended : now ≡ before ++ text
  pub told : (more : List Bool) →
      told_events events (deaf ++ more) old ≡ record { seats = new; text = text; deaf = more }

-- the longest line that may tell that a watcher is gone, and such lines of all
abbrev pub seat_room : Seat → ℕ
seat_room s = length (fault_line s.number Memory)

unfoldable pub fault_room : List Seat → ℕ
fault_room [] = 0
fault_room (s ∷ seats) = seat_room s + fault_room seats

-- the first that a test takes, and the others
unfoldable pub first_taken : {A : Type 0} → (A → Bool) → List A → Option A
first_taken test [] = None
first_taken test (x ∷ xs) = if test x then Some x else first_taken test xs

unfoldable pub others : {A : Type 0} → (A → Bool) → List A → List A
others test [] = []
others test (x ∷ xs) = if test x then xs else x ∷ others test xs

-- the watcher at a number, and the others
abbrev pub sits_at : ℕ → Seat → Bool
sits_at number s = s.number == number

abbrev pub seat_at : ℕ → List Seat → Option Seat
seat_at number seats = first_taken (sits_at number) seats

abbrev pub without : ℕ → List Seat → List Seat
without number seats = others (sits_at number) seats

-- one more is attached
abbrev pub attached : Watching → Seated → Seated
attached w x = record { seats = x.seats ++ record { number = x.given + 1; watching = w } ∷ []; given = x.given + 1 }

-- the report of an attached watcher, and all reports in order of number
unfoldable pub seat_report : Seat → List ℕ
seat_report s = watcher_line s.number (codes "report") ++ report_of s.watching.kind s.watching.heard

unfoldable pub reports : List Seat → List ℕ
reports seats = flat_map seat_report seats

-- two kinds are one
abbrev pub is_kind : WatchKind → WatchKind → Bool
is_kind kind.Trace kind.Trace = true
is_kind kind.Cover kind.Cover = true
is_kind kind.Failing kind.Failing = true
is_kind _ _ = false

-- of watchers that were handed in the first of a kind, and the others
abbrev pub is_of_kind : WatchKind → Watching → Bool
is_of_kind k w = is_kind w.kind k

abbrev pub first_of_kind : WatchKind → List Watching → Option Watching
first_of_kind k watchers = first_taken (is_of_kind k) watchers

abbrev pub without_kind : WatchKind → List Watching → List Watching
without_kind k watchers = others (is_of_kind k) watchers
