-- For the contracts of private functions: frames that are entered and left.
use Rattle.std.specs.Prelude.{◌≡◌, ℕ, List, [], ◌∷◌, drop, Bool, Option, Some, None, Result, Ok, Err}
use Rattle.enc_base.specs.declared.token.Token.{Token}
use Rattle.enc_machine_types.specs.Elements.{CallShape}
use Rattle.enc_machine_types.specs.Members.{call_shape}
use Rattle.enc_objects.specs.declared.trap.Trap.{Trap}
use Rattle.enc_objects.specs.declared.trap.Trap.TheVariants.{X2}
use Rattle.enc_objects.specs.declared.value.Value.{Value}
use Rattle.enc_plain.specs.Debug.{PlainPdb}
use Rattle.enc_plain.specs.Module.{Module}
use Rattle.enc_versions.specs.StandFor.{AreVersionsOf}
use Rattle.enc_versions.specs.Version.{Version}
use Rattle.enc_vm.specs.Calls.{entering, enter, ask_object, chosen}
use Rattle.enc_frames.specs.Values.{value_given}
use Rattle.enc_frames.specs.Machine.{World, Frame, Thread, Shared}
use Rattle.enc_frames.specs.Results.{◌>>=◌, or_trap, Made, nothing_shown}
use Rattle.enc_frames.specs.Straight.{moved_on}
use Rattle.enc_vm.specs.declared.returns.FrameChange.{FrameChange}
use Rattle.enc_vm.specs.declared.returns.FrameChange.TheVariants.{Stays, Entered, Left, LeftLast}
use Rattle.enc_frames.specs.declared.stop.Stop.{Stop}
use Rattle.enc_frames.specs.declared.stop.Stop.TheVariants as stop
use Rattle.enc_frames.specs.FramesSeen.{handed_in}

-- newest bodies stand for a module and some PDB
abbrev pub AreBodiesOf : (ℕ → Option (List ℕ)) → Module → List (Option Version) → Type 0
AreBodiesOf users m methods = (debug : PlainPdb) × AreVersionsOf users m debug methods

-- a frame is left
abbrev pub left_with : Shared → Token → Option Value → List (Frame Version) → Result (Made Version) Trap
left_with s method value [] = Ok
    (record { shared = s; thread = None; shown = record nothing_shown { left = Some method } })
left_with s method value (f ∷ below) =
    handed_in value f >>= λ g.
    Ok (record {
      shared = s;
      thread = Some (record { top = g; below = below; flight = None });
      shown = record nothing_shown { left = Some method };
    })

-- and with it its value
abbrev pub returned : Module → Shared → Thread Version → Result (Made Version) Trap
returned m s t =
    or_trap X2 (call_shape m t.top.method) >>= λ (shape : CallShape). value_given shape.gives t.top.stack >>= λ value.
    left_with s t.top.method value t.below

-- what a change of frames makes
abbrev pub made_by : FrameChange → Shared → Thread Version → Made Version
made_by Stays s t = record { shared = s; thread = Some t; shown = nothing_shown }
made_by (Entered method) s t = entering s method t
made_by (Left method) s t = record { shared = s; thread = Some t; shown = record nothing_shown { left = Some method } }
made_by (LeftLast method) s t =
    record { shared = s; thread = None; shown = record nothing_shown { left = Some method } }

-- it makes what is defined of what all tasks share and of the frames, or traps where that does, and then changes
-- nothing; without memory it changes nothing
abbrev pub Makes : Result FrameChange Stop → Shared → Shared → Thread Version → Thread Version
    → Result (Made Version) Trap → Type 0
Makes (Ok change) s r t u said = said ≡ Ok (made_by change s t)
Makes (Err (stop.Trap trap)) s r t u said = (said ≡ Err trap) × (s ≡ r) × (t ≡ u)
Makes (Err stop.Memory) s r t u said = (s ≡ r) × (t ≡ u)

-- a call with these arguments, which are so many values on the stack
abbrev pub called_on : World Version → Module → Bool → Bool → ℕ → ℕ → Token → List Value → Thread Version → Shared
    → Result (Made Version) Trap
called_on w m asks virtual next n method args t s =
    ask_object asks args >>= λ _. chosen virtual m s.store args method >>= λ target.
    enter w t (moved_on next (drop n t.top.stack) t.top) target args >>= λ u. Ok (entering s target u)
