-- A remap's answer, and the machine behind it.
use Rattle.std.specs.Prelude.{◌≡◌, ℕ, Bool, true, false, not, List, [], ◌∷◌, ◌++◌, length, Option, Some, is_some, Result, Ok, Err, ◌==◌}
use Rattle.std.specs.declared.alloc.AllocError.{AllocError}
use Rattle.enc_frames.specs.Machine.{Frame, Task, going, MachineState, code_meant, state_meant}
use Rattle.enc_objects.specs.declared.kind.Kind.{Kind}
use Rattle.enc_plain.specs.Debug.{PlainPdb}
use Rattle.enc_plain.specs.Module.{Module}
use Rattle.enc_versions.specs.StandFor.{AreVersionsOf}
use Rattle.enc_versions.specs.Stops.{is_stop_in}
use Rattle.enc_versions.specs.Version.{Version, newest_of}
use Rattle.enc_remap.specs.Remap.{Codes, Move, Remapping, moved, refused, MayMove, move_rules, goal, new_kinds, remap_in}
use Rattle.enc_remap.specs.declared.remapped.Remapped.{Remapped}
use Rattle.enc_remap.specs.declared.remapped.Remapped.TheVariants as remapped

-- a remap's answer and the machine behind it are what is defined; a refused one, and want of memory, change nothing
abbrev pub IsRemap : {C : Type 0} → Result Remapped AllocError → MachineState C → MachineState C → Remapping C → Type 0
IsRemap (Ok (remapped.Moved method from to)) new old said = said ≡ moved method from to new
IsRemap (Ok (remapped.Refused number)) new old said = (said ≡ refused number) × (new ≡ old)
IsRemap (Err e) new old said = new ≡ old

-- the remap of the plain machine: of a module and each PDB that the newest versions stand for
abbrev pub IsPlainRemap : (ℕ → Option (List ℕ)) → Module → List (Option Version) → ℕ → List (ℕ × ℕ)
    → Result Remapped AllocError → MachineState Version
    → MachineState Version → Type 0
IsPlainRemap users m methods task pairs result new old =
    (debug : PlainPdb) → AreVersionsOf users m debug methods
    → IsRemap result (state_meant users new) (state_meant users old)
    (remap_in m debug task pairs (state_meant users old))

-- frames that hold versions, whose bodies have these user texts
abbrev pub version_codes : (ℕ → Option (List ℕ)) → List (Option Version) → Codes Version
version_codes users methods = record { meant = code_meant users; newest = newest_of methods }

-- no rule is broken for a move; the newest code, the offset and the kinds of the new local variables are these
pub record IsGoal (x : Move) (newest : Option Version) (code : Version) (to : ℕ) (kinds : List Kind) : Type 0 where
  pub may : MayMove x
  pub newest_is : newest ≡ Some code
  pub goal_is : goal x ≡ Some to
  pub stop : is_stop_in code.code code.points.points to ≡ true
  pub kinds_are : new_kinds x ≡ Some kinds

-- and for a frame: nothing is on its stack, and it runs no handler
abbrev pub frame_rules : {C : Type 0} → Frame C → Move → List (ℕ × Bool)
frame_rules f x = (2, not (length f.stack == 0)) ∷ move_rules x ++ (7, not (length f.running == 0)) ∷ []

-- a task goes on, and no object is on its way in it
abbrev pub goes_on : {C : Type 0} → Option (Task C) → Bool
goes_on (Some (going t)) = not (is_some t.flight)
goes_on _ = false
