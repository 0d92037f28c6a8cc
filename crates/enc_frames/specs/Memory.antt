-- Instructions on objects: texts, fields, arrays, casts (ECMA-335 III.4).
use Rattle.std.specs.Prelude.{ℕ, drop, ℤ, pos, Bool, true, false, not, ◌&&◌, ◌||◌, List, ◌∷◌, length, Option, Some, None, Result, Ok, Err, codes, nat_lt, int_lt, ◌==◌, if◌then◌else◌, unsigned_abs}
use Rattle.std.specs.Int.{w32, cast_signed}
use Rattle.enc_base.specs.declared.token.Token.{Token}
use Rattle.enc_plain.specs.ClassPath.{is_class, extends}
use Rattle.enc_dispatch.specs.Interfaces.{implements}
use Rattle.enc_machine_types.specs.Members.{field_kind}
use Rattle.enc_plain.specs.System.{is_of_system}
use Rattle.enc_objects.specs.Objects.{Store, is_full, with_object, next_object, new_array_of, shape_in, field_in, with_field, static_in, with_static, element_in, with_element}
use Rattle.enc_objects.specs.declared.kind.Kind.{Kind}
use Rattle.enc_objects.specs.declared.kind.Kind.TheVariants as kind
use Rattle.enc_objects.specs.declared.object.Content.{Content}
use Rattle.enc_objects.specs.declared.object.Content.TheVariants.{Text}
use Rattle.enc_objects.specs.declared.shape.Shape.{Shape}
use Rattle.enc_objects.specs.declared.shape.Shape.TheVariants as shape
use Rattle.enc_objects.specs.declared.trap.Trap.{Trap}
use Rattle.enc_objects.specs.declared.trap.Trap.TheVariants.{X2, X4, X5, X7, X8, X9, X12}
use Rattle.enc_objects.specs.declared.value.Value.{Value}
use Rattle.enc_objects.specs.declared.value.Value.TheVariants.{I4, Null, Obj}
use Rattle.enc_plain.specs.Module.{Module}
use Rattle.enc_base.specs.Tables as tables
use Rattle.enc_frames.specs.declared.heap.ArrayOf.{ArrayOf}
use Rattle.enc_frames.specs.Machine.{Frame}
use Rattle.enc_frames.specs.Results.{◌>>=◌, or_trap, ask}
use Rattle.enc_frames.specs.Straight.{moved_on, load}
use Rattle.enc_frames.specs.Values.{fit, upper, upper_two, upper_three, reference, word_of_value}

-- what an instruction makes of the store and the frame
abbrev pub Stored : Type 0 → Type 0
Stored C = Result (Store × Frame C) Trap

-- a new object with so many parts, and its number
abbrev pub new_in : Content → ℕ → Store → Result (Store × ℕ) Trap
new_in c parts s = if is_full s parts then Err X12 else Ok (with_object c s, next_object s)

-- ldstr (III.4.16)
unfoldable pub load_text : {C : Type 0} → ℕ → ℕ → List ℕ → Store → Frame C → Stored C
load_text max next units s f =
    new_in (Text units) (length units) s >>= λ n. load max next (Obj n.1) f >>= λ g. Ok (n.0, g)

-- the kind of a field that an instruction names
unfoldable pub named_field : Module → Token → Result Kind Trap
named_field m t = if t.table == tables.field then or_trap X2 (field_kind m t) else Err X2

-- the object that a reference is of
abbrev pub not_null : Option ℕ → Result ℕ Trap
not_null o = or_trap X5 o

-- ldfld, stfld of a field of a kind (III.4.10, III.4.28)
unfoldable pub load_field_of : {C : Type 0} → Kind → ℕ → Token → Store → Frame C → Stored C
load_field_of k next t s f =
    upper f.stack >>= λ p. reference p >>= λ r. not_null r >>= λ id. Ok (
      s,
      moved_on next (field_in s id t k ∷ (drop 1 f.stack)) f,
    )

unfoldable pub store_field_of : {C : Type 0} → Kind → ℕ → Token → Store → Frame C → Stored C
store_field_of k next t s f =
    upper_two f.stack >>= λ p. reference p.0 >>= λ r. fit k p.1 >>= λ v. not_null r >>= λ id. Ok (
      with_field id t v s,
      moved_on next (drop 2 f.stack) f,
    )

-- ldsfld, stsfld, where the type was touched (III.4.14, III.4.30)
unfoldable pub load_static : {C : Type 0} → Kind → ℕ → ℕ → Token → Store → Frame C → Stored C
load_static k max next t s f = load max next (static_in s t k) f >>= λ g. Ok (s, g)

unfoldable pub store_static : {C : Type 0} → Kind → ℕ → Token → Store → Frame C → Stored C
store_static k next t s f = upper f.stack >>= λ p. fit k p >>= λ v. Ok (
  with_static t v s,
  moved_on next (drop 1 f.stack) f,
)

-- newarr of elements of a kind (III.4.20)
unfoldable pub new_array_of_kind : {C : Type 0} → Kind → ℕ → Store → Frame C → Stored C
new_array_of_kind k next s f =
    upper f.stack >>= λ p. word_of_value p >>= λ n. ask X7 (not (int_lt n (pos 0))) >>= λ _.
    new_in (new_array_of k (unsigned_abs n)) (unsigned_abs n) s >>= λ o. Ok (
      o.0,
      moved_on next (Obj o.1 ∷ (drop 1 f.stack)) f,
    )

-- an array by the shape of an object
abbrev pub array_by_shape : ℕ → Option Shape → Option (Option ArrayOf)
array_by_shape id (Some (shape.Array k n)) = Some (Some (record { id = id; «kind» = k; count = n }))
array_by_shape id _ = None

-- the array that a value is of, None within of null
abbrev pub array_in_value : Store → Value → Option (Option ArrayOf)
array_in_value s Null = Some None
array_in_value s (Obj id) = array_by_shape id (shape_in s id)
array_in_value s _ = None

-- ldlen (III.4.12)
unfoldable pub array_length : {C : Type 0} → ℕ → Store → Frame C → Stored C
array_length next s f =
    upper f.stack >>= λ p. or_trap X4 (array_in_value s p) >>= λ o. or_trap X5 o >>= λ (a : ArrayOf).
    Ok (s, moved_on next (I4 (cast_signed w32 a.count) ∷ (drop 1 f.stack)) f)

-- how many bytes an element of a kind has; a reference has a width of its own
unfoldable pub element_width : Kind → ℕ
element_width kind.I1 = 1
element_width kind.U1 = 1
element_width kind.I2 = 2
element_width kind.U2 = 2
element_width kind.I4 = 4
element_width kind.U4 = 4
element_width kind.I8 = 8
element_width kind.U8 = 8
element_width kind.Ref = 0

-- an array whose elements have the width of a kind
abbrev pub has_width : Kind → Option ArrayOf → Bool
has_width k None = true
has_width k (Some a) = element_width a.kind == element_width k

unfoldable pub array_of : Kind → Store → Value → Result (Option ArrayOf) Trap
array_of k s v = or_trap X4 (array_in_value s v) >>= λ o. ask X4 (has_width k o) >>= λ _. Ok o

-- the index lies in the array
abbrev pub index_in : ArrayOf → ℤ → Result ℕ Trap
index_in a n = if int_lt n (pos 0) || not (nat_lt (unsigned_abs n) a.count) then Err X8 else Ok (unsigned_abs n)

-- ldelem: extended by the sign of the instruction's kind (III.4.7, III.4.8)
unfoldable pub load_element : {C : Type 0} → Kind → ℕ → Store → Frame C → Stored C
load_element k next s f =
    upper_two f.stack >>= λ p. array_of k s p.0 >>= λ o. word_of_value p.1 >>= λ n. or_trap X5 o >>= λ (a : ArrayOf).
    index_in a n >>= λ i.
    or_trap X8 (element_in s a.id i) >>= λ v. fit k v >>= λ w. Ok (s, moved_on next (w ∷ (drop 2 f.stack)) f)

-- stelem: cut to the kind of the array (III.4.25, III.4.26)
abbrev pub element_kind : Kind → Option ArrayOf → Kind
element_kind k None = k
element_kind k (Some a) = a.kind

unfoldable pub store_element : {C : Type 0} → Kind → ℕ → Store → Frame C → Stored C
store_element k next s f =
    upper_three f.stack >>= λ p. array_of k s p.0 >>= λ o. word_of_value p.1 >>= λ n. fit
    (element_kind k o) p.2 >>= λ v. or_trap X5 o >>= λ (a : ArrayOf).
    index_in a n >>= λ i. Ok (with_element a.id i v s, moved_on next (drop 3 f.stack) f)

-- a type that a cast can ask for: a TypeDef, System.Object, System.String
unfoldable pub is_cast_type : Module → Token → Bool
is_cast_type m t = is_class m t || is_of_system m (codes "Object") t || is_of_system m (codes "String") t

-- an object of this shape is of the type: rows of InterfaceImpl and the path of Extends speak of a TypeDef alone
-- (I.8.7.1)
unfoldable pub is_instance_of : Module → Token → Shape → Bool
is_instance_of m t (shape.Object class) =
    is_of_system m (codes "Object") t || is_class m t && (extends m class t || implements m class t)
is_instance_of m t (shape.Text n) = is_of_system m (codes "Object") t || is_of_system m (codes "String") t
is_instance_of m t (shape.Array k n) = is_of_system m (codes "Object") t

abbrev pub shape_is_of : Module → Token → Option Shape → Bool
shape_is_of m t None = false
shape_is_of m t (Some s) = is_instance_of m t s

-- null is of each type
abbrev pub is_null_or_of : Module → Token → Store → Option ℕ → Bool
is_null_or_of m t s None = true
is_null_or_of m t s (Some id) = shape_is_of m t (shape_in s id)

-- castclass (III.4.3)
unfoldable pub cast_to : {C : Type 0} → Module → ℕ → Token → Store → Frame C → Stored C
cast_to m next t s f =
    ask X2 (is_cast_type m t) >>= λ _. upper f.stack >>= λ p. reference p >>= λ r. ask X9
    (is_null_or_of m t s r) >>= λ _. Ok (s, moved_on next f.stack f)

-- isinst (III.4.6)
unfoldable pub instance_or_null : {C : Type 0} → Module → ℕ → Token → Store → Frame C → Stored C
instance_or_null m next t s f =
    ask X2 (is_cast_type m t) >>= λ _. upper f.stack >>= λ p. reference p >>= λ r.
    Ok (s, moved_on next ((if is_null_or_of m t s r then p else Null) ∷ (drop 1 f.stack)) f)
