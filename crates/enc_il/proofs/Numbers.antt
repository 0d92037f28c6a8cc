-- Numbers and ranges at a place between other bytes.
use Rattle.std.proofs.Common.{◌≡◌, ℕ, ◌+◌, ◌<◌, ◌≤◌, ◌^◌, true, List, ◌∷◌, ◌++◌, length, Some, refl, ap, arith}
use Rattle.std.specs.Prelude.{nat_le}
use Rattle.std.specs.Int.{w8, w16, w32, to_le_bytes}
use Rattle.std.proofs.lemmas.Bool.Decides.{nat_tests}
use Rattle.std.proofs.lemmas.List.{length-append, drop_at, take_at}
use Rattle.std.proofs.lemmas.Nat.{from_le_bytes-to_le_bytes_2, from_le_bytes-to_le_bytes_4}
use Rattle.enc_base.specs.Numbers.{little_endian_at}
use Rattle.enc_opcodes.specs.Instruction.{range_at}

not_more : (a b : ℕ) → a ≤ b → nat_le a b ≡ true
not_more a b h = grind (arith, nat_tests)

pub byte_between : (before rest : List ℕ) (n at : ℕ) → length before ≡ at → little_endian_at w8 (before ++ (n ∷ rest)) at ≡ Some n
byte_between before rest n at long =
    let l = length-append before (n ∷ rest) in
    rw (not_more (at + 1) (length (before ++ (n ∷ rest))) (omega (arith, l)), drop_at before (n ∷ rest) at long) refl

pub half_between : (before rest : List ℕ) (n at : ℕ) → length before ≡ at → n < 2 ^ 16 → little_endian_at w16 (before ++ (to_le_bytes w16 n ++ rest)) at ≡ Some n
half_between before rest n at long few =
    let l = length-append before (to_le_bytes w16 n ++ rest) in
    rw (not_more (at + 2) (length (before ++ (to_le_bytes w16 n ++ rest))) (omega (arith, l)), drop_at before (to_le_bytes w16 n ++ rest) at long) (ap (λ n. Some n) (from_le_bytes-to_le_bytes_2 n few))

pub word_between : (before rest : List ℕ) (n at : ℕ) → length before ≡ at → n < 2 ^ 32 → little_endian_at w32 (before ++ (to_le_bytes w32 n ++ rest)) at ≡ Some n
word_between before rest n at long few =
    let l = length-append before (to_le_bytes w32 n ++ rest) in
    rw (not_more (at + 4) (length (before ++ (to_le_bytes w32 n ++ rest))) (omega (arith, l)), drop_at before (to_le_bytes w32 n ++ rest) at long) (ap (λ n. Some n) (from_le_bytes-to_le_bytes_4 n few))

pub range_between : (before bytes rest : List ℕ) (at n : ℕ) → length before ≡ at → length bytes ≡ n → range_at (before ++ (bytes ++ rest)) at n ≡ Some bytes
unfolding range_at
range_between before bytes rest at n long many =
    let l = length-append before (bytes ++ rest) in
    let m = length-append bytes rest in
    rw (not_more (at + n) (length (before ++ (bytes ++ rest))) (omega (arith, l, m)), drop_at before (bytes ++ rest) at long, take_at bytes rest n many) refl
