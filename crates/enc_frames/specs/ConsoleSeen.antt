-- Members outside, by the objects, the innermost frame and what is written.
use Rattle.std.specs.Prelude.{◌≡◌, ℕ, List, [], Option, None, Result, Ok, Err}
use Rattle.std.specs.Borrow.{Bor}
use Rattle.std.specs.Option.{option_copied}
use Rattle.enc_base.specs.declared.token.Token.{Token}
use Rattle.enc_objects.specs.Objects.{Store}
use Rattle.enc_objects.specs.declared.trap.Trap.{Trap}
use Rattle.enc_objects.specs.declared.object.Content.TheVariants.{Instance}
use Rattle.enc_objects.specs.declared.value.Value.TheVariants.{Obj}
use Rattle.enc_frames.specs.FramesSeen.{shared_by}
use Rattle.enc_frames.specs.Machine.{Frame, Thread, Shared}
use Rattle.enc_frames.specs.Memory.{new_in}
use Rattle.enc_frames.specs.Results.{◌>>=◌, nothing_shown, Made, made_with}
use Rattle.enc_frames.specs.Straight.{load}
use Rattle.enc_frames.specs.declared.stop.Stop.{Stop}
use Rattle.enc_frames.specs.declared.stop.Stop.TheVariants as stop

-- the text that a value is of, where it stands
abbrev pub text_seen : Result (Option (Bor (List ℕ))) Trap → Result (Option (List ℕ)) Trap
text_seen (Ok o) = Ok (option_copied o)
text_seen (Err trap) = Err trap

-- the frames of a task that has this one alone
abbrev pub frame_alone : {C : Type 0} → Frame C → Thread C
frame_alone f = record { top = f; below = []; flight = None }

-- what a step makes that changes objects and the innermost frame, and writes
abbrev pub made_writing : {C : Type 0} → List Token → Thread C → Store → Frame C → Option (List ℕ) → Made C
made_writing touched t store f wrote = made_with (shared_by store touched) t f (record nothing_shown { wrote = wrote })

-- a new object of a type goes on the stack, which may hold so many values
abbrev pub object_loaded : {C : Type 0} → ℕ → ℕ → Token → Shared → Thread C → Result (Made C) Trap
object_loaded max next class s t =
    new_in (Instance class) 0 s.store >>= λ n. load max next (Obj n.1) t.top >>= λ f. Ok
    (made_with (record s { store = n.0 }) t f nothing_shown)

-- it makes what is defined, or traps where that does, and then changes nothing; without memory it changes nothing
abbrev pub MakesWriting : {C : Type 0} → Result (Option (List ℕ)) Stop → Store → Store → Frame C → List Token → Thread C
    → Result (Made C) Trap
    → Type 0
MakesWriting (Ok wrote) new old f touched t said = said ≡ Ok (made_writing touched t new f wrote)
MakesWriting (Err (stop.Trap trap)) new old f touched t said = (said ≡ Err trap) × (new ≡ old) × (f ≡ t.top)
MakesWriting (Err stop.Memory) new old f touched t said = (new ≡ old) × (f ≡ t.top)
