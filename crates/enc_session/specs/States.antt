-- The state of a machine as text: its tasks with their frames, its objects, the statics that were set, and the types
-- that were touched.
use Rattle.std.specs.Prelude.{ℕ, ◌+◌, List, [], ◌∷◌, ◌++◌, reverse, Option, Some, None, codes, decimal, flat_map}
use Rattle.std.specs.Fmt.{signed_decimal}
use Rattle.enc_base.specs.declared.token.Token.{Token}
use Rattle.enc_objects.specs.Entries.{Entries}
use Rattle.enc_objects.specs.declared.kind.Kind.{Kind}
use Rattle.enc_objects.specs.declared.kind.Kind.TheVariants as kind
use Rattle.enc_objects.specs.declared.object.Object.{Object}
use Rattle.enc_objects.specs.declared.object.Content.{Content}
use Rattle.enc_objects.specs.declared.object.Content.TheVariants.{Instance, Array, Text}
use Rattle.enc_objects.specs.declared.value.Value.{Value}
use Rattle.enc_objects.specs.declared.value.Value.TheVariants.{I4, I8, Null, Obj}
use Rattle.enc_text.specs.Text.{token_text, quoted}
use Rattle.enc_text.specs.BodyText.{label, utf8_of}
use Rattle.enc_frames.specs.Machine.{Frame, Task, going, ended, trapped, MachineState}
use Rattle.enc_vm.specs.Looks.{frames_of}
use Rattle.enc_frames.specs.declared.handler.Flight.{Flight}
use Rattle.enc_session.specs.Lines.{task_line}

-- a value: 5, 5L, null, #3
abbrev pub shown_value : Value → List ℕ
shown_value (I4 n) = signed_decimal n
shown_value (I8 n) = signed_decimal n ++ codes "L"
shown_value Null = codes "null"
shown_value (Obj id) = codes "#" ++ decimal id

-- values behind others, a space before each
abbrev pub more_values : List Value → List ℕ
more_values vs = flat_map (λ (v : Value). 0x20 ∷ shown_value v) vs

-- values, a space between them
abbrev pub values_text : List Value → List ℕ
values_text [] = []
values_text (v ∷ vs) = shown_value v ++ more_values vs

-- values in brackets, behind a name
unfoldable pub bracketed_values : List ℕ → List Value → List ℕ
bracketed_values name vs = name ++ codes "(" ++ values_text vs ++ codes ")"

-- the line of a frame
unfoldable pub frame_line : {C : Type 0} → Frame C → List ℕ
frame_line f =
    codes "  frame " ++ token_text f.method ++ 0x20 ∷ label f.offset
    ++ 0x20 ∷ bracketed_values (codes "args") f.args ++ 0x20 ∷ bracketed_values (codes "locals") f.locals
    ++ 0x20 ∷ bracketed_values (codes "stack") (reverse f.stack) ++ 0x0a ∷ []

-- how it stands with a task: an object may be on its way to a handler
abbrev pub going_text : Option Flight → List ℕ
going_text None = codes "running"
going_text (Some flight) = codes "unwinding #" ++ decimal flight.object

abbrev pub standing_text : {C : Type 0} → Task C → List ℕ
standing_text (going t) = going_text t.flight
standing_text ended = codes "ended"
standing_text (trapped x frames) = codes "trapped"

-- a task, and its frames from the outermost
unfoldable pub task_text : {C : Type 0} → ℕ → Task C → List ℕ
task_text n t = task_line n (standing_text t) ++ flat_map frame_line (reverse (frames_of t))

-- tasks from a number
abbrev pub tasks_text : {C : Type 0} → ℕ → List (Task C) → List ℕ
tasks_text n [] = []
tasks_text n (t ∷ ts) = task_text n t ++ tasks_text (n + 1) ts

-- the values of an object's fields that were set, in the order of tokens
abbrev pub fields_text : Entries → List ℕ
fields_text fields = flat_map (λ (x : Token × Value). 0x20 ∷ token_text x.0 ++ 0x3d ∷ shown_value x.1) fields

abbrev pub array_kind_text : Kind → List ℕ
array_kind_text kind.I1 = codes "I1"
array_kind_text kind.U1 = codes "U1"
array_kind_text kind.I2 = codes "I2"
array_kind_text kind.U2 = codes "U2"
array_kind_text kind.I4 = codes "I4"
array_kind_text kind.U4 = codes "U4"
array_kind_text kind.I8 = codes "I8"
array_kind_text kind.U8 = codes "U8"
array_kind_text kind.Ref = codes "Ref"

-- what an object is; fields are shown of one that has a class
abbrev pub content_text : Content → Entries → List ℕ
content_text (Instance class) fields = codes "class " ++ token_text class ++ fields_text fields
content_text (Array k elements) fields = codes "array " ++ bracketed_values (array_kind_text k) elements
content_text (Text units) fields = codes "text " ++ quoted (utf8_of units)

-- the line of an object
unfoldable pub object_line : ℕ → Object → List ℕ
object_line n o = codes "object " ++ decimal n ++ 0x20 ∷ content_text o.content o.fields ++ 0x0a ∷ []

-- objects from a number
abbrev pub objects_text : ℕ → List Object → List ℕ
objects_text n [] = []
objects_text n (o ∷ os) = object_line n o ++ objects_text (n + 1) os

-- the lines of the statics that were set, and of the types that were touched, in the order of tokens
unfoldable pub static_line : Token × Value → List ℕ
static_line x = codes "static " ++ token_text x.0 ++ 0x3d ∷ shown_value x.1 ++ 0x0a ∷ []

unfoldable pub touched_line : Token → List ℕ
touched_line t = codes "touched " ++ token_text t ++ 0x0a ∷ []

-- the whole
unfoldable pub state_text : {C : Type 0} → MachineState C → List ℕ
state_text s =
    codes "state" ++ 0x0a ∷ [] ++ tasks_text 1 s.tasks ++ objects_text 1 s.shared.store.objects
    ++ flat_map static_line s.shared.store.statics
    ++ flat_map touched_line s.shared.touched ++ codes "end" ++ 0x0a ∷ []
