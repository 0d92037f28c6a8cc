-- Lists of bytes: their parts are bytes too, and so the numbers read in them are small.
use Rattle.std.proofs.Common.{◌≡◌, ℕ, zero, suc, ◌+◌, ◌-◌, ◌*◌, ◌^◌, ◌<◌, Bool, true, false, cond, List, [], ◌∷◌, length, take, drop, get_or, Some, None, refl, ap, arith}
use Rattle.std.specs.Prelude.{◌&&◌, nat_lt, nat_le, slice_get}
use Rattle.std.specs.List.{list_all}
use Rattle.std.specs.Int.{w8, w16, w32, from_le_bytes}
use Rattle.std.proofs.lemmas.List.{get_or-drop}
use Rattle.std.proofs.lemmas.Bool.Decides.{nat_tests}
use Rattle.std.proofs.lemmas.Bool.{and_parts}
use Rattle.enc_base.specs.Numbers.{little_endian_at, in_two, in_four, compressed, AreBytes}

-- each place has a byte; behind the end stands 0
pub record EachIsByte (bytes : List ℕ) : Type 0 where
  pub at : (i : ℕ) → get_or bytes i 0 < 256

byte_at : (bytes : List ℕ) (i : ℕ) → list_all (λ b. nat_lt b 0x100) bytes ≡ true → get_or bytes i 0 < 256
byte_at [] i h = omega arith
byte_at (b ∷ rest) zero h = let e = (and_parts (nat_lt b 0x100) _ h).0 in grind (arith, nat_tests)
byte_at (b ∷ rest) (suc i) h = byte_at rest i (and_parts (nat_lt b 0x100) _ h).1

pub bytes_each : (bytes : List ℕ) → AreBytes bytes → EachIsByte bytes
bytes_each bytes h = record { at = λ i. byte_at bytes i h }

below_hex : (n : ℕ) → n < 256 → nat_lt n 0x100 ≡ true
below_hex n few = grind (arith, nat_tests)

each_small : (bytes : List ℕ) → ((i d : ℕ) → i < length bytes → get_or bytes i d < 256) → list_all (λ b. nat_lt b 0x100) bytes ≡ true
each_small [] all = refl
each_small (b ∷ rest) all = rw (below_hex b (all 0 0 (omega arith))) (each_small rest (λ i d h. all (suc i) d (omega arith)))

-- where each item is one, all are bytes
pub are_bytes : (bytes : List ℕ) → ((i d : ℕ) → i < length bytes → get_or bytes i d < 256) → AreBytes bytes
are_bytes bytes all = each_small bytes all

pub each_none : EachIsByte []
each_none = record { at = λ i. omega arith }

pub each_drop : (bytes : List ℕ) (n : ℕ) → EachIsByte bytes → EachIsByte (drop n bytes)
each_drop bytes n all = record { at = λ i. rw (get_or-drop n bytes i 0) (all.at (n + i)) }

taken : (bytes : List ℕ) (n i : ℕ) → ((k : ℕ) → get_or bytes k 0 < 256) → get_or (take n bytes) i 0 < 256
taken bytes zero i all = omega arith
taken [] (suc n) i all = omega arith
taken (b ∷ rest) (suc n) zero all = all 0
taken (b ∷ rest) (suc n) (suc i) all = taken rest n i (λ k. all (suc k))

pub each_take : (bytes : List ℕ) (n : ℕ) → EachIsByte bytes → EachIsByte (take n bytes)
each_take bytes n all = record { at = λ i. taken bytes n i all.at }

if_there : (t : Bool) (m n k : ℕ) → m < k → cond t (Some m) None ≡ Some n → n < k
if_there true m n k few is = let e : m ≡ n = cc in rw (← e) few
if_there false m n k few is = absurd cc

one_few : (bytes : List ℕ) → EachIsByte bytes → from_le_bytes w8 bytes < 2 ^ 8
one_few bytes all = omega (arith, all.at 0)

two_few : (bytes : List ℕ) → EachIsByte bytes → from_le_bytes w16 bytes < 2 ^ 16
two_few bytes all = omega (arith, all.at 0, all.at 1)

four_few : (bytes : List ℕ) → EachIsByte bytes → from_le_bytes w32 bytes < 2 ^ 32
four_few bytes all = omega (arith, all.at 0, all.at 1, all.at 2, all.at 3)

-- a number of one byte, of two and of four
pub number8_few : (bytes : List ℕ) (at n : ℕ) → EachIsByte bytes → little_endian_at w8 bytes at ≡ Some n → n < 2 ^ 8
number8_few bytes at n all is = if_there (nat_le (at + 1) (length bytes)) (from_le_bytes w8 (drop at bytes)) n (2 ^ 8) (one_few (drop at bytes) (each_drop bytes at all)) is

pub number16_few : (bytes : List ℕ) (at n : ℕ) → EachIsByte bytes → little_endian_at w16 bytes at ≡ Some n → n < 2 ^ 16
number16_few bytes at n all is = if_there (nat_le (at + 2) (length bytes)) (from_le_bytes w16 (drop at bytes)) n (2 ^ 16) (two_few (drop at bytes) (each_drop bytes at all)) is

pub number32_few : (bytes : List ℕ) (at n : ℕ) → EachIsByte bytes → little_endian_at w32 bytes at ≡ Some n → n < 2 ^ 32
number32_few bytes at n all is = if_there (nat_le (at + 4) (length bytes)) (from_le_bytes w32 (drop at bytes)) n (2 ^ 32) (four_few (drop at bytes) (each_drop bytes at all)) is

-- and a byte
pub got_few : (bytes : List ℕ) (i n : ℕ) → EachIsByte bytes → slice_get bytes i ≡ Some n → n < 2 ^ 8
got_few bytes i n all is = found bytes i n all.at is
  where
    found : (bytes : List ℕ) (i n : ℕ) → ((k : ℕ) → get_or bytes k 0 < 256) → slice_get bytes i ≡ Some n → n < 2 ^ 8
    found [] i n all is = absurd cc
    found (b ∷ rest) zero n all is = let e : b ≡ n = cc in rw (← e) (all 0)
    found (b ∷ rest) (suc i) n all is = found rest i n (λ k. all (suc k)) is

-- a compressed number has at most 29 bits (II.23.2)
two_spelled : (a : ℕ) (rest : List ℕ) (x : ℕ × ℕ) → a < 0xC0 → ((k : ℕ) → get_or rest k 0 < 256) → in_two a rest ≡ Some x → x.0 < 2 ^ 29
two_spelled a [] x low all is = absurd cc
two_spelled a (b ∷ rest) x low all is =
    let e : ((a - 0x80) * 256 + b, 2) ≡ x = cc in
    let f : (a - 0x80) * 256 + b ≡ x.0 = ap (λ (y : ℕ × ℕ). y.0) e in
    omega (arith, all 0)

four_spelled : (a : ℕ) (rest : List ℕ) (x : ℕ × ℕ) → a < 0xE0 → ((k : ℕ) → get_or rest k 0 < 256) → in_four a rest ≡ Some x → x.0 < 2 ^ 29
four_spelled a [] x low all is = absurd cc
four_spelled a (b ∷ []) x low all is = absurd cc
four_spelled a (b ∷ c ∷ []) x low all is = absurd cc
four_spelled a (b ∷ c ∷ d ∷ rest) x low all is =
    let e : ((((a - 0xC0) * 256 + b) * 256 + c) * 256 + d, 4) ≡ x = cc in
    let f : (((a - 0xC0) * 256 + b) * 256 + c) * 256 + d ≡ x.0 = ap (λ (y : ℕ × ℕ). y.0) e in
    omega (arith, all 0, all 1, all 2)

by_first : (a : ℕ) (rest : List ℕ) (x : ℕ × ℕ) (s t u : Bool) → nat_lt a 0x80 ≡ s → nat_lt a 0xC0 ≡ t → nat_lt a 0xE0 ≡ u → ((k : ℕ) → get_or rest k 0 < 256) → cond s (Some (a, 1)) (cond t (in_two a rest) (cond u (in_four a rest) None)) ≡ Some x → x.0 < 2 ^ 29
by_first a rest x true t u hs ht hu all is =
    let e : (a, 1) ≡ x = cc in
    let f : a ≡ x.0 = ap (λ (y : ℕ × ℕ). y.0) e in
    let low : a < 0x80 = grind (arith, nat_tests) in
    omega arith
by_first a rest x false true u hs ht hu all is = two_spelled a rest x (grind (arith, nat_tests)) all is
by_first a rest x false false true hs ht hu all is = four_spelled a rest x (grind (arith, nat_tests)) all is
by_first a rest x false false false hs ht hu all is = absurd cc

spelled_few : (bytes : List ℕ) (x : ℕ × ℕ) → ((k : ℕ) → get_or bytes k 0 < 256) → compressed bytes ≡ Some x → x.0 < 2 ^ 29
spelled_few [] x all is = absurd cc
spelled_few (a ∷ rest) x all is = by_first a rest x (nat_lt a 0x80) (nat_lt a 0xC0) (nat_lt a 0xE0) refl refl refl (λ k. all (suc k)) is

pub compressed_few : (bytes : List ℕ) (x : ℕ × ℕ) → EachIsByte bytes → compressed bytes ≡ Some x → x.0 < 2 ^ 29
compressed_few bytes x all is = spelled_few bytes x all.at is

-- and it takes a byte at least
two_long : (a : ℕ) (rest : List ℕ) (x : ℕ × ℕ) → in_two a rest ≡ Some x → 0 < x.1
two_long a [] x is = absurd cc
two_long a (b ∷ rest) x is =
    let e : ((a - 0x80) * 256 + b, 2) ≡ x = cc in
    let f : 2 ≡ x.1 = ap (λ (y : ℕ × ℕ). y.1) e in
    omega arith

four_long : (a : ℕ) (rest : List ℕ) (x : ℕ × ℕ) → in_four a rest ≡ Some x → 0 < x.1
four_long a [] x is = absurd cc
four_long a (b ∷ []) x is = absurd cc
four_long a (b ∷ c ∷ []) x is = absurd cc
four_long a (b ∷ c ∷ d ∷ rest) x is =
    let e : ((((a - 0xC0) * 256 + b) * 256 + c) * 256 + d, 4) ≡ x = cc in
    let f : 4 ≡ x.1 = ap (λ (y : ℕ × ℕ). y.1) e in
    omega arith

long_by : (a : ℕ) (rest : List ℕ) (x : ℕ × ℕ) (s t u : Bool) → cond s (Some (a, 1)) (cond t (in_two a rest) (cond u (in_four a rest) None)) ≡ Some x → 0 < x.1
long_by a rest x true t u is =
    let e : (a, 1) ≡ x = cc in
    let f : 1 ≡ x.1 = ap (λ (y : ℕ × ℕ). y.1) e in
    omega arith
long_by a rest x false true u is = two_long a rest x is
long_by a rest x false false true is = four_long a rest x is
long_by a rest x false false false is = absurd cc

pub compressed_long : (bytes : List ℕ) (x : ℕ × ℕ) → compressed bytes ≡ Some x → 0 < x.1
compressed_long [] x is = absurd cc
compressed_long (a ∷ rest) x is = long_by a rest x (nat_lt a 0x80) (nat_lt a 0xC0) (nat_lt a 0xE0) is
