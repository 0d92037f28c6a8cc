-- What tells the size of a field by its type names a row.
use Rattle.std.proofs.Common.{◌≡◌, ℕ, ◌/◌, ◌%◌, ◌^◌, ◌<◌, Bool, true, false, List, [], ◌∷◌, Option, Some, None, refl, arith}
use Rattle.std.specs.Prelude.{◌==◌, option_map, option_and_then, if◌then◌else◌}
use Rattle.std.proofs.lemmas.Bool.Decides.{nat_tests}
use Rattle.enc_base.specs.Numbers.{compressed}
use Rattle.enc_base.specs.Token.{nil}
use Rattle.enc_base.specs.declared.token.Token.{Token}
use Rattle.enc_schema.specs.declared.column.Coding.TheVariants.{TypeDefOrRef}
use Rattle.enc_schema.specs.Coding.{decoded, table_with, tag_bits}
use Rattle.enc_plain.specs.Extent.{size_of_kind, class_of, class_in, extent_in}
use Rattle.enc_plain.specs.declared.extent.Extent.{Extent}
use Rattle.enc_plain.specs.declared.extent.Extent.TheVariants.{Bytes, Class}

-- the row of a type is one
abbrev pub names_row : Option Extent → Type 0
names_row (Some (Class t)) = 0 < t
names_row _ = Unit {0}

class_named : (t : Token) (b : Bool) → (t.table == 0x02) ≡ b → (t.table ≡ 0x02 → 0 < t.row) → names_row (if b then Some (Class t.row) else None)
class_named t true is some = some (grind (arith, nat_tests))
class_named t false is some = tt

tagged_row : (row : ℕ) (o : Option ℕ) → 0 < row → names_row (class_of (option_map (λ (t : ℕ). record { table = t; row = row }) o))
tagged_row row None some = tt
tagged_row row (Some t) some = class_named (record { table = t; row = row }) (t == 0x02) refl (λ e. some)

coded_row : (n row : ℕ) (b : Bool) → (row == 0) ≡ b → names_row (class_of (if b then Some nil else option_map (λ (t : ℕ). record { table = t; row = row }) (table_with TypeDefOrRef (n % 2 ^ tag_bits TypeDefOrRef))))
coded_row n row true is = tt
coded_row n row false is = tagged_row row (table_with TypeDefOrRef (n % 2 ^ tag_bits TypeDefOrRef)) (grind (arith, nat_tests))

decoded_row : (n : ℕ) → names_row (class_of (decoded TypeDefOrRef n))
unfolding decoded
decoded_row n = coded_row n (n / 2 ^ tag_bits TypeDefOrRef) ((n / 2 ^ tag_bits TypeDefOrRef) == 0) refl

class_row : (o : Option (ℕ × ℕ)) → names_row (option_and_then (λ (x : ℕ × ℕ). class_of (decoded TypeDefOrRef x.0)) o)
class_row None = tt
class_row (Some x) = decoded_row x.0

bytes_row : (o : Option ℕ) → names_row (option_map (λ n. Bytes n) o)
bytes_row None = tt
bytes_row (Some n) = tt

by_kind : (rest : List ℕ) (kind : ℕ) (a b : Bool) → names_row (if a then (if b then class_in rest else option_map (λ n. Bytes n) (size_of_kind kind)) else None)
unfolding class_in
by_kind rest kind true true = class_row (compressed rest)
by_kind rest kind true false = bytes_row (size_of_kind kind)
by_kind rest kind false b = tt

pub extent_row : (bytes : List ℕ) → names_row (extent_in bytes)
unfolding extent_in
extent_row [] = tt
extent_row (first ∷ []) = tt
extent_row (first ∷ kind ∷ rest) = by_kind rest kind (first == 0x06) (kind == 0x11)
