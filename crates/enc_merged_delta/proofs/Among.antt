-- Whether a token is among some.
use Rattle.std.proofs.Common.{◌≡◌, Bool, true, List, [], ◌∷◌, map, refl, inl, inr, arith}
use Rattle.std.specs.Prelude.{◌==◌}
use Rattle.std.specs.List.{list_all, list_any}
use Rattle.std.proofs.lemmas.Bool.{and_from, and_parts, or_cases, or_left, or_right}
use Rattle.std.proofs.lemmas.Bool.Decides.{nat_tests}
use Rattle.enc_base.specs.Token.{is_token, number_of}
use Rattle.enc_base.specs.declared.token.Token.{Token}
use Rattle.enc_plain.proofs.Applied.{same_is}
use Rattle.enc_delta.specs.Rules.{stands_in}

-- a token is among some
abbrev pub lists : List Token → Token → Bool
lists ts u = list_any (λ t. is_token t u) ts

pub self : (t : Token) → is_token t t ≡ true
self t = grind (arith, nat_tests)

-- its number is among theirs
pub number_there : (ts : List Token) (u : Token) → lists ts u ≡ true → stands_in (map number_of ts) (number_of u) ≡ true
number_there [] u h = absurd cc
number_there (t ∷ ts) u h = elim (or_cases (is_token t u) (lists ts u) h) [
  | inl here ↦ let same : t ≡ u = same_is t u here in or_left (number_of t == number_of u) _ (rw same (grind (arith, nat_tests)))
  | inr behind ↦ or_right (number_of t == number_of u) _ (number_there ts u behind)
]

-- what holds of all tokens holds of one among them, and the other way round
pub one_of_all : (p : Token → Bool) (ts : List Token) (u : Token) → list_all p ts ≡ true → lists ts u ≡ true → p u ≡ true
one_of_all p [] u all h = absurd cc
one_of_all p (t ∷ ts) u all h =
    let both = and_parts (p t) (list_all p ts) all in
    elim (or_cases (is_token t u) (lists ts u) h) [
      | inl here ↦ let same : t ≡ u = same_is t u here in rw (← same) both.0
      | inr behind ↦ one_of_all p ts u both.1 behind
    ]

pub all_if_each : (p : Token → Bool) (ts : List Token) → ((u : Token) → lists ts u ≡ true → p u ≡ true) → list_all p ts ≡ true
all_if_each p [] each = refl
all_if_each p (t ∷ ts) each =
    and_from (p t) (list_all p ts) (each t (or_left (is_token t t) (lists ts t) (self t)))
    (all_if_each p ts (λ u h. each u (or_right (is_token t u) (lists ts u) h)))
