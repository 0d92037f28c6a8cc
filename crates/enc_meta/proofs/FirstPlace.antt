-- The first place at which a byte stands.
use Rattle.std.proofs.Common.{◌≡◌, ℕ, ◌<◌, Bool, true, false, List, [], ◌∷◌, zero, suc, length, get_or, Option, Some, None, refl, sym, ap, ◌∙◌, inl, inr, arith}
use Rattle.std.specs.Prelude.{position, ◌==◌, ◌⊎◌}
use Rattle.std.specs.List.{position_or_len}
use Rattle.std.proofs.lemmas.Bool.Decides.{nat_tests}
use Rattle.std.proofs.lemmas.Bool.{cases_lt}
use Rattle.std.proofs.lemmas.List.Quantifiers.{position-Some}
use Rattle.memchr.specs.Find.{IsFirstByte, is_byte}

never : {A : Type 0} (b : Bool) → b ≡ true → b ≡ false → A
never b h e = let f : false ≡ true = sym e ∙ h in absurd cc

two : (b : Bool) → (b ≡ true) ⊎ (b ≡ false)
two true = inl refl
two false = inr refl

place_there : (test : ℕ → Bool) (xs : List ℕ) (k : ℕ) → k < length xs → test (get_or xs k 0) ≡ true → position_or_len test xs < length xs
place_there test [] k l h = absurd (omega arith)
place_there test (x ∷ xs) zero l h = rw h (omega arith)
place_there test (x ∷ xs) (suc k) l h = elim (two (test x)) [
  | inl is ↦ rw is (omega arith)
  | inr fails ↦ rw fails (omega (arith, place_there test xs k (omega arith) h))
]

none_there : (test : ℕ → Bool) (xs : List ℕ) (k : ℕ) → position test xs ≡ None → k < length xs → test (get_or xs k 0) ≡ false
none_there test xs k is l = elim (two (test (get_or xs k 0))) [
  | inl h ↦ let low = place_there test xs k l h in absurd (grind (arith, nat_tests, is, low))
  | inr fails ↦ fails
]

by_place : (test : ℕ → Bool) (xs : List ℕ) (r o : Option ℕ) → position test xs ≡ o → IsFirstByte test xs r → r ≡ o
by_place test xs None None is h = refl
by_place test xs None (Some i) is h = let p = position-Some test xs i 0 is in absurd (h i (omega arith) p.0 p.1)
by_place test xs (Some k) None is h = never (test (get_or xs k 0)) h.1 (none_there test xs k is h.0.high)
by_place test xs (Some k) (Some i) is h =
    let p = position-Some test xs i 0 is in
    elim (cases_lt k i) [
      | inl below ↦ never (test (get_or xs k 0)) h.1 (p.2 k below)
      | inr above ↦ elim (cases_lt i k) [
        | inl before ↦ absurd (h.0.before i (omega arith) before p.1)
        | inr behind ↦ ap (λ n. Some n) (omega arith)
      ]
    ]

pub first_place : (bytes : List ℕ) (r : Option ℕ) → IsFirstByte (is_byte 0) bytes r → r ≡ position (λ b. b == 0) bytes
first_place bytes r h = by_place (λ b. b == 0) bytes r (position (λ b. b == 0) bytes) refl h
