-- For the contracts of private functions: room for what a step may write, by the value on the top of the innermost
-- frame's stack alone.
use Rattle.std.specs.Prelude.{ℕ, Bool, true, false, List, [], ◌∷◌, Option, Some, None, is_some, Result}
use Rattle.enc_frames.specs.Machine.{Frame, MachineState}
use Rattle.enc_objects.specs.Objects.{Store, units_held}
use Rattle.enc_objects.specs.declared.trap.Trap.{Trap}
use Rattle.enc_objects.specs.declared.value.Value.{Value}
use Rattle.enc_objects.specs.declared.value.Value.TheVariants.{Obj}
use Rattle.enc_vm.specs.Looks.{innermost_in}
use Rattle.enc_vm.specs.RoomSeen.{IsRoomForTop}

-- a value is a text
abbrev pub is_text : Store → Value → Bool
is_text s (Obj id) = is_some (units_held s id)
is_text s _ = false

-- one is on the top of a stack
abbrev pub is_text_on : Store → List Value → Bool
is_text_on s [] = false
is_text_on s (v ∷ rest) = is_text s v

-- of that of a task's innermost frame
abbrev pub is_text_in : {C : Type 0} → Store → Option (Frame C) → Bool
is_text_in s None = false
is_text_in s (Some f) = is_text_on s f.stack

abbrev pub has_text_on_top : {C : Type 0} → MachineState C → ℕ → Bool
has_text_on_top s task = is_text_in s.shared.store (innermost_in s task)

-- where none is, 12 units are room: a number's digits, with a sign, and a line end
abbrev pub IsShortUnless : Bool → Store → Result Value Trap → Type 0
IsShortUnless true s top = Unit {0}
IsShortUnless false s top = IsRoomForTop s 12 top
