-- What is read at the front of bytes, one thing behind the other.
use Rattle.std.specs.Prelude.{ℕ, Bool, ◌&&◌, List, drop, Option, Some, None, option_map, option_and_then, nat_lt, if◌then◌else◌, ℤ}
use Rattle.std.specs.Int.{w32, cast_unsigned}
use Rattle.enc_base.specs.Numbers.{compressed, signed, is_within}

-- what reads something at the front of the bytes, and gives what is behind it too
abbrev pub Reader : Type 0 → Type 0
Reader A = List ℕ → Option (A × List ℕ)

-- what is read, put into another form
abbrev pub giving : {A B : Type 0} → (A → B) → Reader A → Reader B
giving {A} f r bytes = option_map (λ (p : A × List ℕ). (f p.0, p.1)) (r bytes)

-- one thing, and another behind it
abbrev pub both : {A B : Type 0} → Reader A → Reader B → Reader (A × B)
both {A} {B} r s bytes = option_and_then
    (λ (p : A × List ℕ). option_map (λ (q : B × List ℕ). ((p.0, q.0), q.1)) (s p.1)) (r bytes)

-- a compressed number, which is below 2^29 (ECMA-335 II.23.2)
unfoldable pub number_in : Reader ℕ
number_in bytes = option_and_then (λ (x : ℕ × ℕ). if nat_lt x.0 0x20000000 then Some (x.0, drop x.1 bytes) else None)
    (compressed bytes)

-- the 32 bits of a signed number
abbrev pub bits_of : ℤ → ℕ
bits_of z = cast_unsigned w32 z

-- the bits are of a number from -2^28 to 2^28 - 1
abbrev pub is_small : ℕ → Bool
is_small bits = is_within 0x10000000 bits && nat_lt bits 0x100000000

-- a compressed signed number, from -2^28 to 2^28 - 1, as its 32 bits (ECMA-335 II.23.2)
unfoldable pub signed_in : Reader ℕ
signed_in bytes = option_and_then (λ (x : ℤ × ℕ). if is_small (bits_of x.0) then Some (bits_of x.0, drop x.1 bytes)
    else None) (signed bytes)
