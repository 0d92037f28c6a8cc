-- What the definitions say as a whole: of kinds, of the instructions on values, and of the store as a finite map.
use Rattle.std.specs.Prelude.{◌≡◌, ℕ, ℤ, Bool, true, false, ◌&&◌, List, [], ◌∷◌, ◌++◌, map, Option, Some, option_and_then, is_some, ◌==◌, IsTrue, codes}
use Rattle.enc_base.specs.Token.{is_token}
use Rattle.enc_base.specs.declared.token.Token.{Token}
use Rattle.enc_opcodes.specs.Opcodes.{op_named}
use Rattle.enc_objects.specs.declared.value.Value.{Value}
use Rattle.enc_objects.specs.declared.kind.Kind.{Kind}
use Rattle.enc_objects.specs.declared.kind.Kind.TheVariants as kind
use Rattle.enc_objects.specs.declared.object.Object.{Object}
use Rattle.enc_objects.specs.declared.object.Content.{Content}
use Rattle.enc_objects.specs.declared.operation.Binary.{Binary}
use Rattle.enc_objects.specs.declared.operation.Unary.{Unary}
use Rattle.enc_objects.specs.Values.{cut, is_of}
use Rattle.enc_objects.specs.Instructions.{from_add, from_add_ovf, from_ceq, from_neg, from_conv_u4, from_conv_ovf_i1_un, from_conv_ovf_i1, from_conv_u2, binary_in, unary_in}
use Rattle.enc_objects.specs.Entries.{value_for}
use Rattle.enc_objects.specs.Objects.{Store, object_at, has_object, with_object, next_object, fields_in, with_field, with_static, element_in, with_element}

-- whether a kind is one of integers
abbrev pub is_integer : Kind → Bool
is_integer kind.I1 = true
is_integer kind.U1 = true
is_integer kind.I2 = true
is_integer kind.U2 = true
is_integer kind.I4 = true
is_integer kind.U4 = true
is_integer kind.I8 = true
is_integer kind.U8 = true
is_integer kind.Ref = false

-- a number that is cut to a kind is the kind's
abbrev pub CutsAreOfKinds : Type 0
CutsAreOfKinds = (k : Kind) (z : ℤ) → IsTrue (is_integer k) → IsTrue (is_of k (cut k z))

-- and a number that is the kind's stays what it is
abbrev pub NumbersOfKindsStay : Type 0
NumbersOfKindsStay = (k : Kind) (z : ℤ) → IsTrue (is_of k z) → cut k z ≡ z

-- the names of the instructions on two values
abbrev pub binary_names : List (List ℕ)
binary_names =
    codes "add" ∷ codes "sub" ∷ codes "mul" ∷ codes "div" ∷ codes "div.un" ∷ codes "rem" ∷ codes "rem.un" ∷ codes "and"
    ∷ codes "or" ∷ codes "xor"
    ∷ codes "shl" ∷ codes "shr" ∷ codes "shr.un"
    ∷ codes "add.ovf" ∷ codes "add.ovf.un" ∷ codes "mul.ovf" ∷ codes "mul.ovf.un" ∷ codes "sub.ovf" ∷ codes "sub.ovf.un"
    ∷ codes "ceq" ∷ codes "cgt" ∷ codes "cgt.un" ∷ codes "clt" ∷ codes "clt.un" ∷ []

-- and on one value
abbrev pub unary_names : List (List ℕ)
unary_names =
    codes "neg" ∷ codes "not" ∷ codes "conv.i1" ∷ codes "conv.i2" ∷ codes "conv.i4" ∷ codes "conv.i8"
    ∷ codes "conv.u4" ∷ codes "conv.u8"
    ∷ codes "conv.ovf.i1.un" ∷ codes "conv.ovf.i2.un" ∷ codes "conv.ovf.i4.un" ∷ codes "conv.ovf.i8.un"
    ∷ codes "conv.ovf.u1.un" ∷ codes "conv.ovf.u2.un" ∷ codes "conv.ovf.u4.un" ∷ codes "conv.ovf.u8.un"
    ∷ codes "conv.ovf.i1" ∷ codes "conv.ovf.u1" ∷ codes "conv.ovf.i2" ∷ codes "conv.ovf.u2"
    ∷ codes "conv.ovf.i4" ∷ codes "conv.ovf.u4" ∷ codes "conv.ovf.i8" ∷ codes "conv.ovf.u8"
    ∷ codes "conv.u2" ∷ codes "conv.u1" ∷ []

-- the instructions of these names do what stands at their codes
abbrev pub BinaryAreNamed : Type 0
BinaryAreNamed =
    map (λ (name : List ℕ). option_and_then binary_in (op_named name)) binary_names
    ≡ map (λ (o : Binary). Some o) (from_add ++ from_add_ovf ++ from_ceq)

abbrev pub UnaryAreNamed : Type 0
UnaryAreNamed = map (λ (name : List ℕ). option_and_then unary_in (op_named name)) unary_names
    ≡ map (λ (o : Unary). Some o) (from_neg ++ from_conv_u4 ++ from_conv_ovf_i1_un ++ from_conv_ovf_i1 ++ from_conv_u2)

-- the value that was set for an object's field
abbrev pub field_value : Store → ℕ → Token → Option Value
field_value s id field = value_for field (fields_in s id)

-- a field that is set has the value
abbrev pub FieldsAreSet : Type 0
FieldsAreSet = (s : Store) (id : ℕ) (field : Token) (value : Value) → IsTrue (has_object s id)
    → field_value (with_field id field value s) id field ≡ Some value

-- and every other field has what it had
abbrev pub OtherFieldsStay : Type 0
OtherFieldsStay = (s : Store) (id other : ℕ) (field asked : Token) (value : Value)
    → (other == id && is_token asked field) ≡ false
    → field_value (with_field id field value s) other asked ≡ field_value s other asked

-- the same of statics
abbrev pub StaticsAreSet : Type 0
StaticsAreSet = (s : Store) (field : Token) (value : Value)
    → value_for field (with_static field value s).statics ≡ Some value

abbrev pub OtherStaticsStay : Type 0
OtherStaticsStay =
    (s : Store) (field asked : Token) (value : Value) → is_token asked field ≡ false
    → value_for asked (with_static field value s).statics ≡ value_for asked s.statics

-- and of elements that are there
abbrev pub ElementsAreSet : Type 0
ElementsAreSet = (s : Store) (id i : ℕ) (value : Value) → IsTrue (is_some (element_in s id i))
    → element_in (with_element id i value s) id i ≡ Some value

abbrev pub OtherElementsStay : Type 0
OtherElementsStay =
    (s : Store) (id other i j : ℕ) (value : Value) → (other == id && j == i) ≡ false
    → element_in (with_element id i value s) other j ≡ element_in s other j

-- fields, elements and statics don't meddle with each other, nor with what objects are
abbrev pub PartsStayApart : Type 0
PartsStayApart = (s : Store) (id : ℕ) (field : Token) (value : Value) (i : ℕ)
    → (map (λ (o : Object). o.content) (with_field id field value s).objects
    ≡ map (λ (o : Object). o.content) s.objects)
    × ((with_field id field value s).statics ≡ s.statics)
    × (map (λ (o : Object). o.fields) (with_element id i value s).objects ≡ map (λ (o : Object). o.fields) s.objects)
    × ((with_element id i value s).statics ≡ s.statics)

-- a new object is there, has its content and no field, and every object before it is as it was
abbrev pub NewObjectsAreThere : Type 0
NewObjectsAreThere = (s : Store) (c : Content)
    → object_at (with_object c s) (next_object s) ≡ Some (record { content = c; fields = [] })

abbrev pub OldObjectsStay : Type 0
OldObjectsStay = (s : Store) (c : Content) (id : ℕ) → IsTrue (has_object s id)
    → object_at (with_object c s) id ≡ object_at s id

-- the same objects are there after a value is set
abbrev pub ObjectsStayThere : Type 0
ObjectsStayThere = (s : Store) (id other : ℕ) (field : Token) (value : Value) (i : ℕ)
    → (has_object (with_field id field value s) other ≡ has_object s other)
    × (has_object (with_element id i value s) other ≡ has_object s other)
