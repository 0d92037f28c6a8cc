-- What tells how many bytes a field has: the front of its signature (ECMA-335 II.22.18, II.23.2.4).
use Rattle.std.specs.Prelude.{ℕ, ◌-◌, List, [], ◌∷◌, Option, Some, None, option_map, option_and_then, nat_lt, ◌==◌, if◌then◌else◌, slice_get}
use Rattle.enc_base.specs.Numbers.{compressed}
use Rattle.enc_base.specs.declared.token.Token.{Token}
use Rattle.enc_schema.specs.declared.column.Coding.TheVariants.{TypeDefOrRef}
use Rattle.enc_schema.specs.Coding.{decoded}
use Rattle.enc_plain.specs.declared.extent.Extent.{Extent}
use Rattle.enc_plain.specs.declared.extent.Extent.TheVariants.{Bytes, Class}
use Rattle.enc_base.specs.Tables as tables

-- how many bytes a kind of integer or float takes, from boolean to R8 (II.23.1.16)
unfoldable pub size_of_kind : ℕ → Option ℕ
size_of_kind kind = if nat_lt kind 0x02 then None
    else slice_get (1 ∷ 2 ∷ 1 ∷ 1 ∷ 2 ∷ 2 ∷ 4 ∷ 4 ∷ 8 ∷ 8 ∷ 4 ∷ 8 ∷ []) (kind - 0x02)

-- the type that a token in a signature names, where it is one of this file's (II.23.2.8)
abbrev pub class_of : Option Token → Option Extent
class_of (Some t) = if t.table == tables.type_def then Some (Class t.row) else None
class_of None = None

unfoldable pub class_in : List ℕ → Option Extent
class_in bytes = option_and_then (λ (x : ℕ × ℕ). class_of (decoded TypeDefOrRef x.0)) (compressed bytes)

-- what tells the size of a field of this signature: its kind, or the type of its value; of another none is known
-- (II.23.2.4, II.22.18)
unfoldable pub extent_in : List ℕ → Option Extent
extent_in (first ∷ kind ∷ rest) = if first == 0x06
    then (if kind == 0x11 then class_in rest else option_map (λ n. Bytes n) (size_of_kind kind)) else None
extent_in _ = None
