-- Numbers in bytes: little-endian ones of fixed width, and compressed ones (ECMA-335 II.23.2).
use Rattle.std.specs.Prelude.{◌≡◌, ℕ, ◌+◌, ◌-◌, ◌*◌, ◌<◌, ◌≤◌, List, [], ◌∷◌, ◌++◌, length, take, drop, Option, Some, None, option_map, nat_lt, nat_le, ℤ, ◌/◌, ◌%◌, ◌^◌, ◌||◌, ◌==◌, Bool, IsTrue, if◌then◌else◌, IfSome, true, false}
use Rattle.std.specs.List.{list_all}
use Rattle.std.specs.Int.{Width, byte_len, from_le_bytes, w32, cast_signed}

-- the little-endian number of this width at a place, where it stands whole there
abbrev pub little_endian_at : Width → List ℕ → ℕ → Option ℕ
little_endian_at w bytes at = if nat_le (at + byte_len w) (length bytes) then Some (from_le_bytes w (drop at bytes))
    else None

-- the least multiple of 4 that isn't less
unfoldable pub padded : ℕ → ℕ
padded n = (n + 3) / 4 * 4

-- a flag, a power of two, stands among these
abbrev pub has_flag : ℕ → ℕ → Bool
has_flag flag flags = flags / flag % 2 == 1

-- no bytes
abbrev pub is_empty : List ℕ → Bool
is_empty [] = true
is_empty (b ∷ rest) = false

-- the bytes spell the number: one byte 0xxxxxxx, two that begin 10, or four that begin 110, high byte first (II.23.2)
abbrev pub IsCompressed : List ℕ → ℕ → Type 0
IsCompressed (a ∷ []) n = (a < 0x80) × (n ≡ a)
IsCompressed (a ∷ b ∷ []) n = (0x80 ≤ a) × (a < 0xC0) × (n + 0x8000 ≡ a * 256 + b)
IsCompressed (a ∷ b ∷ c ∷ d ∷ []) n = (0xC0 ≤ a) × (a < 0xE0) × (n + 0xC0000000 ≡ ((a * 256 + b) * 256 + c) * 256 + d)
IsCompressed _ n = ⊥

-- the number in two bytes, or in four, of which the first is given
abbrev pub in_two : ℕ → List ℕ → Option (ℕ × ℕ)
in_two a [] = None
in_two a (b ∷ rest) = Some ((a - 0x80) * 256 + b, 2)

abbrev pub in_four : ℕ → List ℕ → Option (ℕ × ℕ)
in_four a (b ∷ c ∷ d ∷ rest) = Some ((((a - 0xC0) * 256 + b) * 256 + c) * 256 + d, 4)
in_four a _ = None

-- the compressed number at the front, and how many bytes spell it
abbrev pub compressed : List ℕ → Option (ℕ × ℕ)
compressed [] = None
compressed (a ∷ rest) = if nat_lt a 0x80 then Some (a, 1) else if nat_lt a 0xC0 then in_two a rest else if nat_lt a 0xE0
    then in_four a rest else None

-- the compressed number at a place, and the place behind it
abbrev pub compressed_at : List ℕ → ℕ → Option (ℕ × ℕ)
compressed_at bytes at = if nat_le at (length bytes)
    then option_map (λ (x : ℕ × ℕ). (x.0, at + x.1)) (compressed (drop at bytes)) else None

-- what is spelled is read, whatever follows it
abbrev pub CompressedIsRead : Type 0
CompressedIsRead = (front rest : List ℕ) (n : ℕ) → IsCompressed front n
    → compressed (front ++ rest) ≡ Some (n, length front)

-- what is read is spelled
abbrev pub ReadIsCompressed : Type 0
ReadIsCompressed = (bytes : List ℕ) → IfSome (compressed bytes) (λ (x : ℕ × ℕ). IsCompressed (take x.1 bytes) x.0)

-- how many numbers that aren't negative so many bytes spell: half of those that their 7, 14 or 29 value bits spell
abbrev pub half_of : ℕ → ℕ
half_of len = if len == 1 then 0x40 else if len == 2 then 0x2000 else 0x10000000

-- the signed number whose value bits, in two's complement and rotated left by one, these are: the lowest bit is the
-- sign (II.23.2)
abbrev pub unrotated : ℕ → ℕ → ℕ
unrotated half n = if n % 2 == 0 then n / 2 else n / 2 + (2 ^ 32 - half)

abbrev pub signed_of : ℕ → ℕ → ℤ
signed_of half n = cast_signed w32 (unrotated half n)

-- the compressed signed number at the front, and how many bytes spell it
abbrev pub signed : List ℕ → Option (ℤ × ℕ)
signed bytes = option_map (λ (x : ℕ × ℕ). (signed_of (half_of x.1) x.0, x.1)) (compressed bytes)

-- the compressed signed number at a place, and the place behind it
abbrev pub signed_at : List ℕ → ℕ → Option (ℤ × ℕ)
signed_at bytes at = if nat_le at (length bytes)
    then option_map (λ (x : ℤ × ℕ). (x.0, at + x.1)) (signed (drop at bytes)) else None

-- a number in one byte, in two and in four
abbrev pub one_byte : ℕ → List ℕ
one_byte n = n ∷ []

abbrev pub two_bytes : ℕ → List ℕ
two_bytes n = (n / 0x100 + 0x80) ∷ n % 0x100 ∷ []

abbrev pub four_bytes : ℕ → List ℕ
four_bytes n = (n / 0x1000000 + 0xC0) ∷ n / 0x10000 % 0x100 ∷ n / 0x100 % 0x100 ∷ n % 0x100 ∷ []

-- the shortest spelling of a number
abbrev pub spelled : ℕ → List ℕ
spelled n = if nat_lt n 0x80 then one_byte n else if nat_lt n 0x4000 then two_bytes n else four_bytes n

-- the number whose 32 bits these are lies from -half to half - 1
abbrev pub is_within : ℕ → ℕ → Bool
is_within half bits = nat_lt bits half || nat_le (2 ^ 32 - half) bits

-- its value bits, rotated left by one
abbrev pub rotated : ℕ → ℕ → ℕ
rotated half bits = if nat_lt bits half then bits * 2 else (bits - (2 ^ 32 - half)) * 2 + 1

-- the shortest spelling of the signed number whose 32 bits these are
abbrev pub spelled_signed : ℕ → List ℕ
spelled_signed bits = if is_within 0x40 bits then one_byte (rotated 0x40 bits) else if is_within 0x2000 bits
    then two_bytes (rotated 0x2000 bits)
    else four_bytes (rotated 0x10000000 bits)

-- each number is a byte
abbrev pub AreBytes : List ℕ → Type 0
AreBytes bytes = IsTrue (list_all (λ b. nat_lt b 0x100) bytes)

-- what is written reads back, whatever follows it
abbrev pub WrittenIsRead : Type 0
WrittenIsRead = (n : ℕ) (rest : List ℕ) → n < 2 ^ 29 → compressed (spelled n ++ rest) ≡ Some (n, length (spelled n))

-- and no spelling of the number is shorter
abbrev pub WrittenIsShortest : Type 0
WrittenIsShortest = (n : ℕ) (front : List ℕ) → AreBytes front → IsCompressed front n → length (spelled n) ≤ length front

-- what is written of a signed number reads back, whatever follows it
abbrev pub SignedWrittenIsRead : Type 0
SignedWrittenIsRead = (bits : ℕ) (rest : List ℕ) → bits < 2 ^ 32 → IsTrue (is_within 0x10000000 bits)
    → signed (spelled_signed bits ++ rest) ≡ Some (cast_signed w32 bits, length (spelled_signed bits))

-- and no spelling of it is shorter
abbrev pub SignedWrittenIsShortest : Type 0
SignedWrittenIsShortest = (bits n : ℕ) (front : List ℕ) → AreBytes front → bits < 2 ^ 32 → IsCompressed front n
    → signed_of (half_of (length front)) n ≡ cast_signed w32 bits → length (spelled_signed bits) ≤ length front
