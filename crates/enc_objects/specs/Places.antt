-- Values as a place of a kind holds them (ECMA-335 III.1.1.1, III.1.6).
use Rattle.std.specs.Prelude.{Bool, true, false, ◌||◌, Option, Some, None, if◌then◌else◌}
use Rattle.enc_objects.specs.declared.kind.Kind.{Kind}
use Rattle.enc_objects.specs.declared.kind.Kind.TheVariants as kind
use Rattle.enc_objects.specs.declared.value.Value.{Value}
use Rattle.enc_objects.specs.declared.value.Value.TheVariants.{I4, I8, Null, Obj}
use Rattle.enc_objects.specs.Values.{cut, held}

-- an integer of 64 bits, a reference
abbrev pub is_long : Kind → Bool
is_long kind.I8 = true
is_long kind.U8 = true
is_long _ = false

abbrev pub is_reference_kind : Kind → Bool
is_reference_kind kind.Ref = true
is_reference_kind _ = false

-- a value as a place of a kind holds it: cut to its width and extended by its sign; none where it is of a wrong kind
unfoldable pub stored_as : Kind → Value → Option Value
stored_as k (I4 n) = if is_long k || is_reference_kind k then None else Some (held k (cut k n))
stored_as k (I8 n) = if is_long k then Some (held k (cut k n)) else None
stored_as k Null = if is_reference_kind k then Some Null else None
stored_as k (Obj id) = if is_reference_kind k then Some (Obj id) else None
