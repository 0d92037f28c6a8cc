-- Numbers in the front of some bytes, and parts of bytes between others.
use Rattle.std.proofs.Common.{◌≡◌, ℕ, ◌+◌, ◌≤◌, true, List, [], ◌∷◌, ◌++◌, length, drop, Some, refl, arith}
use Rattle.std.specs.Prelude.{nat_le}
use Rattle.std.specs.Int.{w16, w32, from_le_bytes}
use Rattle.std.proofs.lemmas.Bool.Decides.{nat_tests}
use Rattle.std.proofs.lemmas.List.{length-append, length-drop, take_at, drop_at, drop-append-le}
use Rattle.enc_base.specs.Numbers.{little_endian_at}
use Rattle.enc_meta.specs.Heaps.{part}
use Rattle.enc_pe.specs.Sections.{whole_at}

pub not_more : (a b : ℕ) → a ≤ b → nat_le a b ≡ true
not_more a b h = grind (arith, nat_tests)

half_low : (front rest : List ℕ) → 2 ≤ length front → from_le_bytes w16 (front ++ rest) ≡ from_le_bytes w16 front
half_low [] rest many = absurd (omega (arith, many))
half_low (a ∷ []) rest many = absurd (omega (arith, many))
half_low (a ∷ b ∷ front) rest many = refl

word_low : (front rest : List ℕ) → 4 ≤ length front → from_le_bytes w32 (front ++ rest) ≡ from_le_bytes w32 front
word_low [] rest many = absurd (omega (arith, many))
word_low (a ∷ []) rest many = absurd (omega (arith, many))
word_low (a ∷ b ∷ []) rest many = absurd (omega (arith, many))
word_low (a ∷ b ∷ c ∷ []) rest many = absurd (omega (arith, many))
word_low (a ∷ b ∷ c ∷ d ∷ front) rest many = refl

-- a number that stands in the front of some bytes is read there
pub half_in_front : (front rest : List ℕ) (at n : ℕ) → at + 2 ≤ length front → from_le_bytes w16 (drop at front) ≡ n → little_endian_at w16 (front ++ rest) at ≡ Some n
half_in_front front rest at n within is =
    let l = length-append front rest in
    let d = length-drop at front in
    rw (not_more (at + 2) (length (front ++ rest)) (omega (arith, l, within)), drop-append-le at front rest (omega (arith, within)), half_low (drop at front) rest (omega (arith, d, within)), is) refl

pub word_in_front : (front rest : List ℕ) (at n : ℕ) → at + 4 ≤ length front → from_le_bytes w32 (drop at front) ≡ n → little_endian_at w32 (front ++ rest) at ≡ Some n
word_in_front front rest at n within is =
    let l = length-append front rest in
    let d = length-drop at front in
    rw (not_more (at + 4) (length (front ++ rest)) (omega (arith, l, within)), drop-append-le at front rest (omega (arith, within)), word_low (drop at front) rest (omega (arith, d, within)), is) refl

-- bytes between others
pub whole_between : (before bytes rest : List ℕ) (at n : ℕ) → length before ≡ at → length bytes ≡ n → whole_at (before ++ (bytes ++ rest)) at n ≡ Some bytes
unfolding whole_at
whole_between before bytes rest at n long many =
    let l = length-append before (bytes ++ rest) in
    let m = length-append bytes rest in
    rw (not_more (at + n) (length (before ++ (bytes ++ rest))) (omega (arith, l, m, long, many)), drop_at before (bytes ++ rest) at long, take_at bytes rest n many) refl

pub part_between : (before bytes rest : List ℕ) (at n : ℕ) → length before ≡ at → length bytes ≡ n → part (before ++ (bytes ++ rest)) (record { start = at; len = n }) ≡ bytes
unfolding part
part_between before bytes rest at n long many = rw (drop_at before (bytes ++ rest) at long, take_at bytes rest n many) refl
