-- Digits that are read as a number.
use Rattle.std.proofs.Common.{◌≡◌, ℕ, ◌<◌, ◌≤◌, ◌^◌, List, [], ◌∷◌, length, Result, Ok, Err, true, false, refl, arith}
use Rattle.std.specs.Prelude.{nat_le, nat_lt, ◌==◌}
use Rattle.std.specs.List.{list_all}
use Rattle.std.specs.Result.{result_ok}
use Rattle.std.specs.Char.{digit_value}
use Rattle.std.specs.Str.Parse.{AllDigits, digits_value, without_leading_plus, ParsesUnsigned}
use Rattle.std.proofs.lemmas.Bool.{and_parts}
use Rattle.std.proofs.lemmas.Bool.Decides.{nat_tests}
use Rattle.enc_command_line.specs.Words.{is_digit}
use Rattle.enc_command_line.specs.Commands.{IsValue}

digit_bounds : (c : ℕ) → is_digit c ≡ true → (48 ≤ c) × (c ≤ 57)
digit_bounds c h =
    let a = and_parts (nat_le 0x30 c) (nat_le c 0x39) h in
    (grind (arith, nat_tests, a.0), grind (arith, nat_tests, a.1))

digit_low : (c : ℕ) → is_digit c ≡ true → digit_value c < 10
digit_low c h =
    let low = digit_bounds c h in
    let one : nat_lt c 48 ≡ false = grind (arith, nat_tests, low.0) in
    let two : nat_lt c 58 ≡ true = grind (arith, nat_tests, low.1) in
    rw (one, two) (omega (arith, low.0, low.1))

all_digits : (ds : List ℕ) → list_all is_digit ds ≡ true → AllDigits 10 ds
all_digits [] h = tt
all_digits (c ∷ cs) h = let a = and_parts (is_digit c) (list_all is_digit cs) h in (digit_low c a.0, all_digits cs a.1)

no_plus : (ds : List ℕ) → 1 ≤ length ds → list_all is_digit ds ≡ true → without_leading_plus ds ≡ ds
no_plus [] some h = absurd (omega (arith, some))
no_plus (c ∷ cs) some h = let a = and_parts (is_digit c) (list_all is_digit cs) h in
    let low = digit_bounds c a.0 in
    let other : (c == 43) ≡ false = grind (arith, nat_tests, low.0) in
    rw other refl

past : (n : ℕ) → (n < 2 ^ 64 → ⊥) → 2 ^ 64 ≤ n
past n not = omega (arith, not)

-- the number that is read
pub value_read : {E : Type 0} (word : List ℕ) (r : Result ℕ E) → 1 ≤ length word → list_all is_digit word ≡ true → ParsesUnsigned 64 10 word r → IsValue (result_ok r) (digits_value 10 word)
value_read word (Ok v) some h reads = rw (← no_plus word some h) (reads.1)
value_read word (Err e) some h reads = past (digits_value 10 word) (λ low. reads ((rw (no_plus word some h) (some, all_digits word h), rw (no_plus word some h) low)))
