-- Frames at their first instruction, the nearest of some frames, and what all tasks share by its parts.
use Rattle.std.specs.Prelude.{List, [], ◌∷◌, map, Option, Some, None, unwrap_or, Result, Ok, slice_set}
use Rattle.enc_base.specs.declared.token.Token.{Token}
use Rattle.enc_machine_types.specs.Members.{local_kinds}
use Rattle.enc_objects.specs.Objects.{Store}
use Rattle.enc_objects.specs.Values.{default_of}
use Rattle.enc_objects.specs.declared.trap.Trap.{Trap}
use Rattle.enc_objects.specs.declared.value.Value.{Value}
use Rattle.enc_plain.specs.Module.{Module}
use Rattle.enc_versions.specs.Version.{Version}
use Rattle.enc_frames.specs.Machine.{Frame, Shared}
use Rattle.enc_frames.specs.Results.{◌>>=◌}
use Rattle.enc_frames.specs.Values.{pushed}

-- a frame that holds a version, at its method's first instruction
abbrev pub frame_at : Module → Token → Version → List Value → Frame Version
frame_at m method v args = record {
  method = method;
  code = v;
  offset = 0;
  args = args;
  locals = map default_of (unwrap_or (local_kinds m v.code.locals) []);
  stack = [];
  running = [];
}

-- a value that was given goes on a frame's stack
abbrev pub handed_in : Option Value → Frame Version → Result (Frame Version) Trap
handed_in None f = Ok f
handed_in (Some v) f = pushed f.code.code.max v f

-- and on that of the first of some frames
abbrev pub handed_first : Option Value → List (Frame Version) → Result (List (Frame Version)) Trap
handed_first value [] = Ok []
handed_first value (f ∷ below) = handed_in value f >>= λ g. Ok (g ∷ below)

-- another first of a list
abbrev pub with_nearest : {A : Type 0} → A → List A → List A
with_nearest y [] = []
with_nearest y (x ∷ rest) = y ∷ rest

-- the first of a list, and else this
abbrev pub nearest_or : {A : Type 0} → A → List A → A
nearest_or y [] = y
nearest_or y (x ∷ rest) = x

-- a frame with another first argument
abbrev pub with_object_first : Value → Frame Version → Frame Version
with_object_first v f = record f { args = slice_set f.args 0 v }

-- what all tasks share, by its parts
abbrev pub shared_by : Store → List Token → Shared
shared_by store touched = record { store = store; touched = touched }
