-- The kinds of types by their tokens (ECMA-335 I.8.2.2, II.22.37, II.22.38).
use Rattle.std.specs.Prelude.{ℕ, Bool, ◌&&◌, List, [], ◌∷◌, Option, Some, None, bytes_eq, codes, ◌==◌, if◌then◌else◌}
use Rattle.enc_base.specs.declared.token.Token.{Token}
use Rattle.enc_objects.specs.declared.kind.Kind.{Kind}
use Rattle.enc_objects.specs.declared.kind.Kind.TheVariants as kind
use Rattle.enc_plain.specs.Module.{Module, cells_of}
use Rattle.enc_plain.specs.Rows.{bytes_at}
use Rattle.enc_schema.specs.Columns as columns
use Rattle.enc_base.specs.Tables as tables
use Rattle.enc_plain.specs.ValueType.{is_value_type}

-- a name and what it has
abbrev pub found : {A : Type 0} → List ℕ → List (List ℕ × A) → Option A
found name [] = None
found name (x ∷ rest) = if bytes_eq name x.0 then Some x.1 else found name rest

-- the kinds of the types that the namespace System has under these names
abbrev pub system_kinds : List (List ℕ × Kind)
system_kinds =
    (codes "Boolean", kind.U1) ∷ (codes "Char", kind.U2) ∷ (codes "SByte", kind.I1) ∷ (
      codes "Byte",
      kind.U1,
    ) ∷ (codes "Int16", kind.I2)
    ∷ (codes "UInt16", kind.U2) ∷ (codes "Int32", kind.I4) ∷ (codes "UInt32", kind.U4) ∷ (
      codes "Int64",
      kind.I8,
    ) ∷ (codes "UInt64", kind.U8)
    ∷ (codes "String", kind.Ref) ∷ (codes "Object", kind.Ref) ∷ []

-- the kind of a TypeRef: by its name in the namespace System, whatever its scope
unfoldable pub reference_kind : Module → Token → Option Kind
reference_kind m t =
    if bytes_eq (bytes_at (cells_of m) t columns.type_ref_type_namespace) (codes "System")
    then found (bytes_at (cells_of m) t columns.type_ref_type_name) system_kinds
    else None

-- the kind of a type: a TypeDef is a class, unless it is a value type; another token than of TypeRef and TypeDef has
-- none
unfoldable pub type_kind : Module → Token → Option Kind
type_kind m t =
    if t.table == tables.type_ref then reference_kind m t
    else if t.table == tables.type_def then (if is_value_type (cells_of m) t then None else Some kind.Ref)
    else None
