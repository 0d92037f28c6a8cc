-- What a step makes, and the traps before it.
use Rattle.std.specs.Prelude.{ℕ, Bool, List, Option, Some, None, Result, Ok, Err, if◌then◌else◌}
use Rattle.enc_base.specs.declared.token.Token.{Token}
use Rattle.enc_objects.specs.declared.trap.Trap.{Trap}
use Rattle.enc_frames.specs.Machine.{Frame, Thread, Shared}

-- one thing, and then another with what it gave; a trap stops both
infixl 10 ◌>>=◌
abbrev pub ◌>>=◌ : {A B : Type 0} → Result A Trap → (A → Result B Trap) → Result B Trap
(Ok x) >>= next = next x
(Err trap) >>= next = Err trap

-- what is there, and else a trap
abbrev pub or_trap : {A : Type 0} → Trap → Option A → Result A Trap
or_trap trap (Some x) = Ok x
or_trap trap None = Err trap

-- nothing where something holds, and else a trap
abbrev pub ask : Trap → Bool → Result Bool Trap
ask trap holds = if holds then Ok holds else Err trap

-- what a step shows beside its line: the method that was entered, the one that was left, the units that were written
pub record Shown : Type 0 where
  pub entered : Option Token
  pub left : Option Token
  pub wrote : Option (List ℕ)

abbrev pub nothing_shown : Shown
nothing_shown = record { entered = None; left = None; wrote = None }

-- what a step makes: what all tasks share, the task's frames, None where the last was left, and what it shows
pub record Made (C : Type 0) : Type 0 where
  pub shared : Shared
  pub thread : Option (Thread C)
  pub shown : Shown

-- the innermost frame alone has changed
abbrev pub with_top : {C : Type 0} → Thread C → Frame C → Thread C
with_top t f = record t { top = f }

abbrev pub made : {C : Type 0} → Shared → Thread C → Frame C → Made C
made s t f = record { shared = s; thread = Some (with_top t f); shown = nothing_shown }

-- and the objects and statics
abbrev pub made_with : {C : Type 0} → Shared → Thread C → Frame C → Shown → Made C
made_with s t f shown = record { shared = s; thread = Some (with_top t f); shown = shown }
