-- The decimal digits of a number, the last behind the others.
use Rattle.std.proofs.Common.{◌≡◌, ℕ, ◌+◌, ◌/◌, ◌%◌, ◌^◌, ◌<◌, ◌≤◌, List, [], ◌∷◌, ◌++◌, length, decimal, ap, ◌∙◌, append_assoc, length-append, arith}
use Rattle.std.proofs.lemmas.Fmt.{decimal_step, length-decimal-le}

-- one digit more than without the last
pub one_digit_more : (n : ℕ) → 10 ≤ n → n < 2 ^ 32 → length (decimal n) ≡ length (decimal (n / 10)) + 1
one_digit_more n h small = ap length (decimal_step n h (omega arith)) ∙ length-append (decimal (n / 10)) ((48 + n % 10) ∷ [])

pub digit_behind : (n : ℕ) (old mid new : List ℕ) → 10 ≤ n → n < 2 ^ 32 → mid ≡ old ++ decimal (n / 10)
    → new ≡ mid ++ (48 + n % 10) ∷ [] → new ≡ old ++ decimal n
digit_behind n old mid new h small before last =
    last ∙ rw (before, decimal_step n h (omega arith)) (append_assoc old (decimal (n / 10)) ((48 + n % 10) ∷ []))

-- ten digits are enough below 2 ^ 32
pub at_most_ten : (n : ℕ) → n < 2 ^ 32 → length (decimal n) ≤ 10
at_most_ten n small = length-decimal-le 10 n (omega arith) (omega arith) (omega arith)
