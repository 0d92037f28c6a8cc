-- What a list of new bodies brings a method, and the tokens that tests keep.
use Rattle.std.proofs.Common.{◌≡◌, ℕ, zero, suc, ◌≤◌, Bool, true, false, List, [], ◌∷◌, map, Option, Some, None, refl, inl, inr, arith}
use Rattle.std.specs.Prelude.{◌||◌, max, cond, filter, slice_get, if◌then◌else◌}
use Rattle.std.specs.List.{list_any}
use Rattle.std.proofs.lemmas.Bool.{or_cases}
use Rattle.std.proofs.lemmas.Bool.Decides.{nat_tests}
use Rattle.enc_base.specs.Order.{or_else}
use Rattle.enc_base.specs.Token.{is_token}
use Rattle.enc_base.specs.declared.token.Token.{Token}
use Rattle.enc_plain.proofs.Applied.{same_is}
use Rattle.enc_rows.specs.Source.{Source}
use Rattle.enc_versions.specs.Commit.{brought, last_row}
use Rattle.enc_versions.specs.Version.{Version}
use Rattle.enc_session.specs.Codes.{new_version}

-- the token is one of these
abbrev pub stands : Token → List Token → Bool
stands u ts = list_any (λ (t : Token). is_token t u) ts

pub both_ways : (b : Bool) → b ≡ true → b ≡ false → ⊥
both_ways true h g = absurd cc
both_ways false h g = absurd cc

same_token : (t : Token) → is_token t t ≡ true
same_token t = grind (arith, nat_tests)

pub or_right : (a b : Bool) → b ≡ true → (a || b) ≡ true
or_right true b h = refl
or_right false b h = h

pub neither : (a b : Bool) → (a || b) ≡ false → (a ≡ false) × (b ≡ false)
neither true b h = absurd cc
neither false b h = (refl, h)

turned : (t u : Token) → is_token t u ≡ is_token u t
turned t u = by (is_token u t) refl
  where
    by : (b : Bool) → is_token u t ≡ b → is_token t u ≡ b
    by true e = let same : u ≡ t = same_is u t e in rw same (same_token t)
    by false e = by_other (is_token t u) refl e
      where
        by_other : (b : Bool) → is_token t u ≡ b → is_token u t ≡ false → b ≡ false
        by_other false h e = refl
        by_other true h e = let same : t ≡ u = same_is t u h in absurd (both_ways (is_token u t) (rw same (same_token u)) e)

-- one of some tokens, told either way
pub stands_turned : (u : Token) (ts : List Token) → list_any (is_token u) ts ≡ stands u ts
stands_turned u [] = refl
stands_turned u (t ∷ ts) = rw (turned u t, stands_turned u ts) refl

-- a token that a test keeps passes it, and was there before
pub kept_one : (p : Token → Bool) (u : Token) (ts : List Token) → stands u (filter p ts) ≡ true → (p u ≡ true) × (stands u ts ≡ true)
kept_one p u [] h = absurd cc
kept_one p u (t ∷ ts) h = by_first (p t) refl h (λ behind. later (kept_one p u ts behind))
  where
    later : (p u ≡ true) × (stands u ts ≡ true) → (p u ≡ true) × (stands u (t ∷ ts) ≡ true)
    later rest = (rest.0, or_right (is_token t u) (stands u ts) rest.1)

    by_first : (b : Bool) → p t ≡ b → stands u (cond b (t ∷ filter p ts) (filter p ts)) ≡ true
        → (stands u (filter p ts) ≡ true → (p u ≡ true) × (stands u (t ∷ ts) ≡ true)) → (p u ≡ true) × (stands u (t ∷ ts) ≡ true)
    by_first true e h more = elim (or_cases (is_token t u) (stands u (filter p ts)) h) [
      | inl here ↦ let same : t ≡ u = same_is t u here in (rw same at e, rw here refl)
      | inr behind ↦ more behind
    ]
    by_first false e h more = more h

-- one that is there and passes is kept
pub one_kept : (p : Token → Bool) (u : Token) (ts : List Token) (i : ℕ) → slice_get ts i ≡ Some u → p u ≡ true → stands u (filter p ts) ≡ true
one_kept p u [] i is h = absurd cc
one_kept p u (t ∷ ts) zero is h = let same : t ≡ u = cc in rw (same, h) (rw (same_token u) refl)
one_kept p u (t ∷ ts) (suc i) is h = by_first (p t) (one_kept p u ts i is h)
  where
    by_first : (b : Bool) → stands u (filter p ts) ≡ true → stands u (cond b (t ∷ filter p ts) (filter p ts)) ≡ true
    by_first true e = or_right (is_token t u) (stands u (filter p ts)) e
    by_first false e = e

-- what methods are brought by their bodies of a delta
brought_step : (d : Source) (pdb : Option Source) (t u : Token) (b rest : Bool) (o : Option Version) → is_token t u ≡ b
    → o ≡ (if rest then Some (new_version d pdb u).version else None)
    → or_else o (if b then Some (new_version d pdb t).version else None) ≡ (if b || rest then Some (new_version d pdb u).version else None)
brought_step d pdb t u true true o e h = rw h refl
brought_step d pdb t u true false o e h = let same : t ≡ u = same_is t u e in rw (h, same) refl
brought_step d pdb t u false true o e h = rw h refl
brought_step d pdb t u false false o e h = rw h refl

pub brought_is : (d : Source) (pdb : Option Source) (u : Token) (ts : List Token)
    → brought (map (new_version d pdb) ts) u ≡ (if stands u ts then Some (new_version d pdb u).version else None)
unfolding brought
brought_is d pdb u [] = refl
brought_is d pdb u (t ∷ ts) = brought_step d pdb t u (is_token t u) (stands u ts) (brought (map (new_version d pdb) ts) u) refl (brought_is d pdb u ts)

-- no row of theirs is past one that none of them passes
most : (a b n : ℕ) → a ≤ n → b ≤ n → max a b ≤ n
most a b n low high = omega (arith, low, high)

pub rows_within : (d : Source) (pdb : Option Source) (n : ℕ) (ts : List Token) → ((t : Token) → stands t ts ≡ true → t.row ≤ n)
    → last_row (map (new_version d pdb) ts) ≤ n
unfolding last_row
rows_within d pdb n [] each = omega arith
rows_within d pdb n (t ∷ ts) each =
    let later = rows_within d pdb n ts (λ u there. each u (or_right (is_token t u) (stands u ts) there)) in
    most t.row (last_row (map (new_version d pdb) ts)) n (each t (rw (same_token t) refl)) later
