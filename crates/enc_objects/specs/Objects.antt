-- The store of objects: what each is, the values set for fields and statics (ECMA-335 I.8, I.12.1).
use Rattle.std.specs.Prelude.{ℕ, zero, suc, ◌+◌, ◌-◌, Bool, ◌||◌, List, [], ◌∷◌, ◌++◌, length, Option, Some, None, option_map, option_and_then, unwrap_or, is_some, slice_get, slice_set, replicate, nat_le, nat_lt}
use Rattle.std.specs.List.{sum_by}
use Rattle.enc_base.specs.declared.token.Token.{Token}
use Rattle.enc_objects.specs.declared.value.Value.{Value}
use Rattle.enc_objects.specs.declared.kind.Kind.{Kind}
use Rattle.enc_objects.specs.declared.object.Object.{Object}
use Rattle.enc_objects.specs.declared.object.Content.{Content}
use Rattle.enc_objects.specs.declared.object.Content.TheVariants.{Instance, Array, Text}
use Rattle.enc_objects.specs.declared.shape.Shape.{Shape}
use Rattle.enc_objects.specs.declared.shape.Shape.TheVariants as shape
use Rattle.enc_objects.specs.Values.{default_of}
use Rattle.enc_objects.specs.Limits.{most_objects, most_parts}
use Rattle.enc_objects.specs.Entries.{Entries, value_for, put_value}

-- the objects, the first of number 1, and the statics that were set
pub record Store : Type 0 where
  pub objects : List Object
  pub statics : Entries

-- the store in which nothing was made
abbrev pub no_objects : Store
no_objects = record { objects = []; statics = [] }

-- an object by its number
abbrev pub object_at : Store → ℕ → Option Object
object_at s zero = None
object_at s (suc i) = slice_get s.objects i

unfoldable pub has_object : Store → ℕ → Bool
has_object s id = is_some (object_at s id)

-- the store with another object of that number
abbrev pub with_changed : ℕ → (Object → Object) → Store → Store
with_changed id change s = unwrap_or
    (option_map (λ (o : Object). record s { objects = slice_set s.objects (id - 1) (change o) }) (object_at s id)) s

-- the elements of an array and the units of a text
abbrev pub part_count : Content → ℕ
part_count (Instance class) = 0
part_count (Array k elements) = length elements
part_count (Text units) = length units

-- those of all objects
abbrev pub parts_held : List Object → ℕ
parts_held objects = sum_by (λ (o : Object). part_count o.content) objects

-- one object more, with so many parts, would pass a limit
unfoldable pub is_full : Store → ℕ → Bool
is_full s parts = nat_le most_objects (length s.objects) || nat_lt most_parts (parts_held s.objects + parts)

-- the store with one object more, of which no field is set
abbrev pub with_object : Content → Store → Store
with_object c s = record s { objects = s.objects ++ record { content = c; fields = [] } ∷ [] }

-- its number
abbrev pub next_object : Store → ℕ
next_object s = length s.objects + 1

-- an array of so many elements, each of which is its kind's default
abbrev pub new_array_of : Kind → ℕ → Content
new_array_of k n = Array k (replicate n (default_of k))

abbrev pub content_shape : Content → Shape
content_shape (Instance class) = shape.Object class
content_shape (Array k elements) = shape.Array k (length elements)
content_shape (Text units) = shape.Text (length units)

-- what an object is
unfoldable pub shape_in : Store → ℕ → Option Shape
shape_in s id = option_map (λ (o : Object). content_shape o.content) (object_at s id)

-- the values that were set for an object's fields
unfoldable pub fields_in : Store → ℕ → Entries
fields_in s id = unwrap_or (option_map (λ (o : Object). o.fields) (object_at s id)) []

-- the value that entries have for a field: its kind's default where none was set
abbrev pub value_or_default : Token → Kind → Entries → Value
value_or_default field k entries = unwrap_or (value_for field entries) (default_of k)

abbrev pub field_of : Token → Kind → Object → Value
field_of field k o = value_or_default field k o.fields

-- the value of an object's field
unfoldable pub field_in : Store → ℕ → Token → Kind → Value
field_in s id field k = value_or_default field k (fields_in s id)

abbrev pub with_field_of : Token → Value → Object → Object
with_field_of field value o = record o { fields = put_value field value o.fields }

-- the store with a value set for an object's field
unfoldable pub with_field : ℕ → Token → Value → Store → Store
with_field id field value s = with_changed id (with_field_of field value) s

-- the same of statics
unfoldable pub static_in : Store → Token → Kind → Value
static_in s field k = value_or_default field k s.statics

unfoldable pub with_static : Token → Value → Store → Store
with_static field value s = record s { statics = put_value field value s.statics }

abbrev pub array_elements : Content → List Value
array_elements (Instance class) = []
array_elements (Array k elements) = elements
array_elements (Text units) = []

-- an element of an array, by its index from 0
abbrev pub element_of : ℕ → Object → Option Value
element_of i o = slice_get (array_elements o.content) i

unfoldable pub element_in : Store → ℕ → ℕ → Option Value
element_in s id i = option_and_then (element_of i) (object_at s id)

abbrev pub with_element_in_content : ℕ → Value → Content → Content
with_element_in_content i value (Instance class) = Instance class
with_element_in_content i value (Array k elements) = Array k (slice_set elements i value)
with_element_in_content i value (Text units) = Text units

abbrev pub with_element_of : ℕ → Value → Object → Object
with_element_of i value o = record o { content = with_element_in_content i value o.content }

-- the store with a value set for an element of an array
unfoldable pub with_element : ℕ → ℕ → Value → Store → Store
with_element id i value s = with_changed id (with_element_of i value) s

abbrev pub elements_of_content : Content → Option (List Value)
elements_of_content (Instance class) = None
elements_of_content (Array k elements) = Some elements
elements_of_content (Text units) = None

-- the elements of an array
unfoldable pub elements_held : Store → ℕ → Option (List Value)
elements_held s id = option_and_then (λ (o : Object). elements_of_content o.content) (object_at s id)

abbrev pub units_of_content : Content → Option (List ℕ)
units_of_content (Instance class) = None
units_of_content (Array k elements) = None
units_of_content (Text units) = Some units

-- the UTF-16 units of a text
unfoldable pub units_held : Store → ℕ → Option (List ℕ)
units_held s id = option_and_then (λ (o : Object). units_of_content o.content) (object_at s id)
