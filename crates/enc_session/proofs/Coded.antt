-- The bodies that a delta brings, one after the other.
use Rattle.std.proofs.Common.{◌≡◌, ◌<◌, ℕ, zero, suc, ◌+◌, ◌^◌, Bool, true, false, List, [], ◌∷◌, ◌++◌, map, take, length, Option, Some, refl, sym, ap, ◌∙◌, arith}
use Rattle.std.specs.Prelude.{◌&&◌, is_some, slice_get, nat_lt}
use Rattle.std.specs.List.{list_all}
use Rattle.std.proofs.lemmas.Bool.Decides.{nat_tests}
use Rattle.std.proofs.lemmas.List.{map-append}
use Rattle.std.proofs.lemmas.Bool.{and_from}
use Rattle.enc_base.specs.declared.token.Token.{Token}
use Rattle.enc_checker.specs.Check.{new_code, new_bodies}
use Rattle.enc_opcodes.specs.Body.{Code}
use Rattle.enc_rows.specs.Source.{Source}
use Rattle.enc_versions.specs.Commit.{NewVersion, version_in, is_method_token, is_entry}
use Rattle.enc_versions.specs.declared.list.CodeEntry.{CodeEntry}
use Rattle.enc_session.proofs.Changed.{at_stands}
use Rattle.enc_session.proofs.ListedBodies.{is_new}
use Rattle.enc_session.specs.Codes.{new_version}

-- each of the methods has a body
some_code : (o : Option Code) (x : Code) → o ≡ Some x → is_some o ≡ true
some_code o x is = ap is_some is

pub entry_code : (d : Source) (i : ℕ) (u : Token) → slice_get (new_bodies d) i ≡ Some u → is_some (new_code d u) ≡ true
entry_code d i u at =
    let code = (is_new d u (at_stands u (new_bodies d) i at)).code in
    some_code (new_code d u) code.0 code.1

all_at : (p : Token → Bool) (ts : List Token) (i : ℕ) (u : Token) → list_all p ts ≡ true → slice_get ts i ≡ Some u → p u ≡ true
all_at p [] i u all at = absurd cc
all_at p (t ∷ ts) zero u all at = let same : t ≡ u = cc in rw same at (first (p t) (list_all p ts) all)
  where
    first : (a b : Bool) → (a && b) ≡ true → a ≡ true
    first true b h = refl
    first false b h = absurd cc
all_at p (t ∷ ts) (suc i) u all at = all_at p ts i u (rest (p t) (list_all p ts) all) at
  where
    rest : (a b : Bool) → (a && b) ≡ true → b ≡ true
    rest true b h = h
    rest false b h = absurd cc

few_bytes : (n : ℕ) → n < 2 ^ 32 → nat_lt n (2 ^ 32) ≡ true
few_bytes n h = grind (arith, nat_tests, h)

-- an entry of theirs is one
pub entry_is : (d : Source) (pdb : Option Source) (i : ℕ) (u : Token) (e : CodeEntry) → list_all is_method_token (new_bodies d) ≡ true
    → slice_get (new_bodies d) i ≡ Some u → version_in e ≡ new_version d pdb u → length e.code < 2 ^ 32 → is_entry e ≡ true
entry_is d pdb i u e all at is few =
    let same : e.method ≡ u = ap (λ (n : NewVersion). n.method) is in
    and_from (is_method_token e.method) (nat_lt (length e.code) (2 ^ 32)) (rw same (all_at is_method_token (new_bodies d) i u all at)) (few_bytes (length e.code) few)

-- one entry more
take_next : (ts : List Token) (i : ℕ) (u : Token) → slice_get ts i ≡ Some u → take (i + 1) ts ≡ take i ts ++ u ∷ []
take_next [] i u at = absurd cc
take_next (t ∷ ts) zero u at = cc
take_next (t ∷ ts) (suc i) u at = let e : suc i + 1 ≡ suc (i + 1) = omega arith in rw e (ap (λ (xs : List Token). t ∷ xs) (take_next ts i u at))

pub codes_more : (d : Source) (pdb : Option Source) (ts : List Token) (i : ℕ) (u : Token) (e : CodeEntry) (old new : List CodeEntry)
    → map version_in old ≡ map (new_version d pdb) (take i ts) → slice_get ts i ≡ Some u → version_in e ≡ new_version d pdb u → new ≡ old ++ e ∷ []
    → map version_in new ≡ map (new_version d pdb) (take (i + 1) ts)
codes_more d pdb ts i u e old new before at is more =
    ap (map version_in) more ∙ map-append version_in old (e ∷ [])
    ∙ ap (λ (xs : List NewVersion). xs ++ version_in e ∷ []) before ∙ ap (λ (v : NewVersion). map (new_version d pdb) (take i ts) ++ v ∷ []) is
    ∙ sym (map-append (new_version d pdb) (take i ts) (u ∷ [])) ∙ ap (map (new_version d pdb)) (sym (take_next ts i u at))
