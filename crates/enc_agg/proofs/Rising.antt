-- Where no token is late, none equals one before it.
use Rattle.std.proofs.Common.{◌≡◌, ℕ, Bool, true, false, List, [], ◌∷◌, ◌++◌, Option, Some, None, refl, arith}
use Rattle.std.specs.Prelude.{◌||◌, cond, map, filter, nat_le}
use Rattle.std.proofs.lemmas.Bool.Decides.{nat_tests}
use Rattle.enc_base.specs.declared.token.Token.{Token}
use Rattle.enc_base.specs.Token.{number_of, is_token}
use Rattle.enc_plain.specs.Cell.{Cell}
use Rattle.enc_plain.specs.Apply.{Change}
use Rattle.enc_plain.specs.Fits.{changes}
use Rattle.enc_delta.specs.Rules.{lesser, least, at_token, late, late_fault}

-- the tokens with the cells that a function gives them
abbrev pub changes_with : (Token → List Cell) → List Token → List Change
changes_with cells tokens = map (λ (t : Token). record { token = t; cells = cells t }) tokens

found : (n : ℕ) (o : Option ℕ) → lesser n o ≡ None → ⊥
found n None h = absurd cc
found n (Some m) h = absurd cc

-- without a least number there is none
pub no_least : (ns : List ℕ) → least ns ≡ None → ns ≡ []
no_least [] h = refl
no_least (n ∷ ns) h = absurd (found n (least ns) h)

-- without a place there is no number
pub no_place : (o : Option ℕ) → at_token o ≡ None → o ≡ None
no_place None h = refl
no_place (Some n) h = absurd cc

-- without a late fault no number is late
pub none_late : (tokens : List Token) → late_fault tokens ≡ None → late (map number_of tokens) ≡ []
unfolding late_fault
none_late tokens h = no_least _ (no_place _ h)

both_empty : (xs ys : List ℕ) → xs ++ ys ≡ [] → (xs ≡ []) × (ys ≡ [])
both_empty [] ys h = (refl, h)
both_empty (x ∷ xs) ys h = absurd cc

-- nor is one of those behind the first
pub late_behind : (t : Token) (ts : List Token) → late (map number_of (t ∷ ts)) ≡ [] → late (map number_of ts) ≡ []
late_behind t ts h = (both_empty (filter (λ m. nat_le m (number_of t)) (map number_of ts)) _ h).1

past : (t u : Token) → nat_le (number_of u) (number_of t) ≡ false → is_token u t ≡ false
past t u h = grind (arith, nat_tests)

one_past : (t u : Token) (ns : List ℕ) (b : Bool) → nat_le (number_of u) (number_of t) ≡ b → cond b (number_of u ∷ ns) ns ≡ [] → (is_token u t ≡ false) × (ns ≡ [])
one_past t u ns true e h = absurd cc
one_past t u ns false e h = (past t u e, h)

neither : (a b : Bool) → a ≡ false → b ≡ false → (a || b) ≡ false
neither a b h k = rw (h, k) refl

all_past : (cells : Token → List Cell) (t : Token) (ts : List Token) → filter (λ m. nat_le m (number_of t)) (map number_of ts) ≡ [] → changes (changes_with cells ts) t ≡ false
all_past cells t [] h = refl
all_past cells t (u ∷ us) h =
    let p = one_past t u (filter (λ m. nat_le m (number_of t)) (map number_of us)) (nat_le (number_of u) (number_of t)) refl h in
    neither _ _ p.0 (all_past cells t us p.1)

-- the first token isn't among those behind it
pub fresh : (cells : Token → List Cell) (t : Token) (ts : List Token) → late (map number_of (t ∷ ts)) ≡ [] → changes (changes_with cells ts) t ≡ false
fresh cells t ts h = all_past cells t ts (both_empty (filter (λ m. nat_le m (number_of t)) (map number_of ts)) _ h).0
