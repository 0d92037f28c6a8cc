-- A frame under way goes on in the newest body of its method: when it may, and what becomes of it. A debugger asks
-- for it behind an edit at a breakpoint.
use Rattle.std.specs.Prelude.{◌≡◌, ℕ, Bool, false, not, ◌&&◌, List, [], ◌∷◌, ◌++◌, length, map, Option, Some, None, option_map, option_and_then, is_some, unwrap_or, ◌==◌, if◌then◌else◌}
use Rattle.std.specs.List.{list_any}
use Rattle.std.specs.Option.{option_map_or}
use Rattle.enc_base.specs.declared.token.Token.{Token}
use Rattle.enc_frames.specs.Machine.{PlainCode, Frame, Thread, Task, going, ended, trapped, MachineState}
use Rattle.enc_machine_types.specs.Members.{local_kinds, method_body, run_body}
use Rattle.enc_objects.specs.Values.{default_of}
use Rattle.enc_objects.specs.declared.kind.Kind.{Kind}
use Rattle.enc_objects.specs.declared.kind.Kind.TheVariants as kind
use Rattle.enc_opcodes.specs.Body.{Body}
use Rattle.enc_opcodes.specs.Sound.{begins_at}
use Rattle.enc_plain.specs.Debug.{PlainPdb}
use Rattle.enc_plain.specs.Module.{Module}
use Rattle.enc_unwind.specs.Search.{is_handled}
use Rattle.enc_versions.specs.StandFor.{lines_known}
use Rattle.enc_vm.specs.Moves.{moved_top}
use Rattle.enc_vm.specs.Step.{task_at}

-- the newest body of a method with its points, whether the interpreter runs it or not
abbrev pub newest_code : Module → PlainPdb → Token → Option PlainCode
newest_code m debug method = option_map
    (λ (b : Body). record { body = b; points = (lines_known (debug method)).points }) (method_body m method)

-- the offset is that of a point that isn't hidden (Portable PDB v1.0, sequence points)
abbrev pub is_visible : PlainCode → ℕ → Bool
is_visible c offset = list_any (λ (p : ℕ × Option (ℕ × ℕ × ℕ × ℕ)). p.0 == offset && is_some p.1) c.points

-- and that of an instruction (ECMA-335 III.1.2)
abbrev pub is_stop : PlainCode → ℕ → Bool
is_stop c offset = begins_at c.body.code offset && is_visible c offset

-- where a map leads from an offset: by the first pair from there
unfoldable pub led_from : ℕ → List (ℕ × ℕ) → Option ℕ
led_from offset [] = None
led_from offset (p ∷ rest) = if p.0 == offset then Some p.1 else led_from offset rest

-- two kinds are the same
abbrev pub kind_number : Kind → ℕ
kind_number kind.I1 = 0
kind_number kind.U1 = 1
kind_number kind.I2 = 2
kind_number kind.U2 = 3
kind_number kind.I4 = 4
kind_number kind.U4 = 5
kind_number kind.I8 = 6
kind_number kind.U8 = 7
kind_number kind.Ref = 8

-- the kinds behind others, where these are the first of them
unfoldable pub kinds_behind : List Kind → List Kind → Option (List Kind)
kinds_behind [] kinds = Some kinds
kinds_behind (k ∷ first) [] = None
kinds_behind (k ∷ first) (j ∷ kinds) = if kind_number k == kind_number j then kinds_behind first kinds else None

-- the kinds of a body's local variables (ECMA-335 II.25.4.4)
abbrev pub kinds_of : Module → PlainCode → List Kind
kinds_of m c = unwrap_or (local_kinds m c.body.locals) []

-- what is asked: the module, a method, the code that a frame of it has, the method's newest one, the frame's offset,
-- and the map
pub record Move : Type 0 where
  pub plain : Module
  pub method : Token
  pub code : PlainCode
  pub newest : Option PlainCode
  pub from : ℕ
  pub pairs : List (ℕ × ℕ)

-- where it leads, and whether a test of the newest body holds there
abbrev pub goal : Move → Option ℕ
goal x = led_from x.from x.pairs

abbrev pub holds_there : (PlainCode → ℕ → Bool) → Move → Bool
holds_there test x = option_map_or (λ (to : ℕ). option_map_or (λ (c : PlainCode). test c to) x.newest false)
    (goal x) false

-- the kinds of the local variables that the newest body has behind those of the frame's body, where these are the first
abbrev pub new_kinds : Move → Option (List Kind)
new_kinds x = option_and_then (λ (c : PlainCode). kinds_behind (kinds_of x.plain x.code) (kinds_of x.plain c)) x.newest

-- what Q3 to Q7 ask of a method, an offset and a map, without a frame's stack and handlers: the number of each, and
-- whether it is broken
abbrev pub move_rules : Move → List (ℕ × Bool)
move_rules x =
    (3, not (is_visible x.code x.from))
    ∷ (4, not (is_some (goal x)))
    ∷ (5, not (holds_there is_stop x))
    ∷ (6, not (is_some (run_body x.plain x.method) && is_some (new_kinds x)))
    ∷ (7, holds_there (λ (c : PlainCode) (to : ℕ). is_handled to c.body.handlers) x)
    ∷ []

-- the number of the first that is broken
unfoldable pub first_broken : List (ℕ × Bool) → Option ℕ
first_broken [] = None
first_broken (r ∷ rest) = if r.1 then Some r.0 else first_broken rest

-- a frame may be moved there, if its stack and its handlers let it: what a debugger asks that has frames of its own
abbrev pub MayMove : Move → Type 0
MayMove x = first_broken (move_rules x) ≡ None

-- all that is asked of the frames of a task that goes on: no object is on its way, nothing is on the innermost
-- frame's stack, the move may be, and no handler
-- runs in the frame
abbrev pub thread_rules : {C : Type 0} → Thread C → Move → List (ℕ × Bool)
thread_rules t x =
    (1, is_some t.flight) ∷ (2, not (length t.top.stack == 0)) ∷ move_rules x ++ (7, not (length t.top.running == 0))
    ∷ []

-- what comes of it: a frame of a method was moved from an offset to another, or the number of the first rule that is
-- broken, and nothing changes
pub data Remapping (C : Type 0) : Type 0 where
  moved : Token → ℕ → ℕ → MachineState C → Remapping C
  refused : ℕ → Remapping C

-- the innermost frame gets the newest code and the offset; its local variables stay, and the defaults of the new
-- ones follow. Where no rule is broken, there
-- are all three
abbrev pub remap_by : {C : Type 0} → ℕ → MachineState C → Frame C → Option ℕ → Option C → Option ℕ → Option (List Kind)
    → Remapping C
remap_by n s f None (Some code) (Some to) (Some kinds) =
    moved f.method f.offset to (moved_top n code to (map default_of kinds) s)
remap_by n s f (Some number) code to kinds = refused number
remap_by n s f None code to kinds = refused 5

-- what frames hold, and what it means; and the newest of a method
pub record Codes (C : Type 0) : Type 0 where
  pub meant : C → PlainCode
  pub newest : Token → Option C

abbrev pub move_of : {C : Type 0} → Codes C → Module → List (ℕ × ℕ) → Frame C → Move
move_of codes m pairs f = record {
  plain = m;
  method = f.method;
  code = codes.meant f.code;
  newest = option_map codes.meant (codes.newest f.method);
  from = f.offset;
  pairs = pairs;
}

abbrev pub remap_thread : {C : Type 0} → Codes C → Module → ℕ → List (ℕ × ℕ) → MachineState C → Thread C → Move
    → Remapping C
remap_thread codes m n pairs s t x =
    remap_by n s t.top (first_broken (thread_rules t x)) (codes.newest t.top.method) (goal x) (new_kinds x)

-- the task goes on, or this is Q1 too
abbrev pub remap_task : {C : Type 0} → Codes C → Module → ℕ → List (ℕ × ℕ) → MachineState C → Option (Task C)
    → Remapping C
remap_task codes m n pairs s (Some (going t)) = remap_thread codes m n pairs s t (move_of codes m pairs t.top)
remap_task codes m n pairs s (Some ended) = refused 1
remap_task codes m n pairs s (Some (trapped x frames)) = refused 1
remap_task codes m n pairs s None = refused 1

unfoldable pub remap_with : {C : Type 0} → Codes C → Module → ℕ → List (ℕ × ℕ) → MachineState C → Remapping C
remap_with codes m n pairs s = remap_task codes m n pairs s (task_at s n)

-- the plain machine: its frames hold the bodies themselves
abbrev pub plain_codes : Module → PlainPdb → Codes PlainCode
plain_codes m debug = record { meant = λ c. c; newest = newest_code m debug }

-- the remap of a task by a map, in the module and the PDB that have all edits
unfoldable pub remap_in : Module → PlainPdb → ℕ → List (ℕ × ℕ) → MachineState PlainCode → Remapping PlainCode
remap_in m debug n pairs s = remap_with (plain_codes m debug) m n pairs s
