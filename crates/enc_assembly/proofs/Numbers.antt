-- Numbers are read from their bytes.
use Rattle.std.proofs.Common.{◌≡◌, ℕ, ◌+◌, ◌-◌, ◌%◌, ◌^◌, ◌<◌, ◌≤◌, true, ℤ, pos, negsuc, List, ◌++◌, length, Some, refl, ap, arith}
use Rattle.std.specs.Prelude.{nat_le}
use Rattle.std.specs.Int.{w8, w16, w32, w64, to_le_bytes, cast_unsigned, cast_signed}
use Rattle.std.proofs.lemmas.Bool.Decides.{nat_tests}
use Rattle.std.proofs.lemmas.Int.{to_z-of_z}
use Rattle.std.proofs.lemmas.List.{length-append, drop_at}
use Rattle.std.proofs.lemmas.Nat.{from_le_bytes-to_le_bytes_8}
use Rattle.enc_base.specs.Numbers.{little_endian_at}
use Rattle.enc_edit_list.specs.Form.{lies_in}
use Rattle.enc_il.proofs.Numbers.{byte_between}

not_more : (a b : ℕ) → a ≤ b → nat_le a b ≡ true
not_more a b h = grind (arith, nat_tests)

pub quad_between : (before rest : List ℕ) (n at : ℕ) → length before ≡ at → n < 2 ^ 64 → little_endian_at w64 (before ++ (to_le_bytes w64 n ++ rest)) at ≡ Some n
quad_between before rest n at long few =
    let l = length-append before (to_le_bytes w64 n ++ rest) in
    rw (not_more (at + 8) (length (before ++ (to_le_bytes w64 n ++ rest))) (omega (arith, l)), drop_at before (to_le_bytes w64 n ++ rest) at long) (ap (λ n. Some n) (from_le_bytes-to_le_bytes_8 n few))

-- one byte of a number that fits it
pub low_byte : (before rest : List ℕ) (n at : ℕ) → length before ≡ at → n < 0x100 → little_endian_at w8 (before ++ (to_le_bytes w8 n ++ rest)) at ≡ Some n
low_byte before rest n at long few =
    let e : n % 256 ≡ n = omega arith in
    rw e (byte_between before rest n at long)

-- a whole number that fits a width is less than the width's count, and is what its bits say
pub bits_8 : (n : ℤ) → lies_in n 0x80 0x7F ≡ true → (cast_unsigned w8 n < 0x100) × (cast_signed w8 (cast_unsigned w8 n) ≡ n)
bits_8 (pos n) h = let few : n ≤ 0x7F = grind (arith, nat_tests, h) in (omega (arith, few), to_z-of_z w8 (pos n) (omega (arith, few)))
bits_8 (negsuc n) h = let few : n < 0x80 = grind (arith, nat_tests, h) in (omega (arith, few), to_z-of_z w8 (negsuc n) (omega (arith, few)))

pub bits_32 : (n : ℤ) → lies_in n 0x80000000 0x7FFFFFFF ≡ true → (cast_unsigned w32 n < 2 ^ 32) × (cast_signed w32 (cast_unsigned w32 n) ≡ n)
bits_32 (pos n) h = let few : n ≤ 0x7FFFFFFF = grind (arith, nat_tests, h) in (omega (arith, few), to_z-of_z w32 (pos n) (omega (arith, few)))
bits_32 (negsuc n) h = let few : n < 0x80000000 = grind (arith, nat_tests, h) in (omega (arith, few), to_z-of_z w32 (negsuc n) (omega (arith, few)))

pub bits_64 : (n : ℤ) → lies_in n (2 ^ 63) (2 ^ 63 - 1) ≡ true → (cast_unsigned w64 n < 2 ^ 64) × (cast_signed w64 (cast_unsigned w64 n) ≡ n)
bits_64 (pos n) h = let few : n ≤ 2 ^ 63 - 1 = grind (arith, nat_tests, h) in (omega (arith, few), to_z-of_z w64 (pos n) (omega (arith, few)))
bits_64 (negsuc n) h = let few : n < 2 ^ 63 = grind (arith, nat_tests, h) in (omega (arith, few), to_z-of_z w64 (negsuc n) (omega (arith, few)))

-- a number without a sign is what it is
pub plain_of : (n : ℤ) (most : ℕ) → lies_in n 0 most ≡ true → (cast_unsigned w16 n ≤ most) × (cast_unsigned w8 n ≡ cast_unsigned w16 n) × (pos (cast_unsigned w16 n) ≡ n)
plain_of (pos n) most h = let few : n ≤ most = grind (arith, nat_tests, h) in (few, refl, refl)
plain_of (negsuc n) most h = absurd (let lt : n < 0 = grind (arith, nat_tests, h) in omega (arith, lt))
