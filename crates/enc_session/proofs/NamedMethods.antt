-- The methods that the PDB of an accepted delta names are methods that the delta lists.
use Rattle.std.proofs.Common.{◌≡◌, ℕ, zero, suc, ◌<◌, Bool, true, false, List, [], ◌∷◌, length, get_or, map, Option, Some, None, Result, Ok, Err, refl, ap, inl, inr, arith}
use Rattle.std.specs.Prelude.{◌==◌, ◌||◌, nat_le, option_map, slice_get, position, if◌then◌else◌}
use Rattle.std.proofs.lemmas.Bool.{cases_lt, and_parts, eqb-true}
use Rattle.std.proofs.lemmas.Bool.Decides.{nat_tests}
use Rattle.std.proofs.lemmas.List.Quantifiers.{position-Some}
use Rattle.std.proofs.lemmas.Option.{slice_get-get_or, slice_get_within}
use Rattle.enc_base.specs.Token.{is_token, nth_row}
use Rattle.enc_base.specs.declared.refusal.Refusal.{Refusal}
use Rattle.enc_base.specs.declared.token.Token.{Token}
use Rattle.enc_rows.specs.Source.{Source}
use Rattle.enc_base.specs.Tables as tables
use Rattle.enc_plain.specs.Chain.{Chain}
use Rattle.enc_delta.specs.Delta.{listed, of_table, place_in}
use Rattle.enc_delta.specs.Judged.{first_meta}
use Rattle.enc_delta.proofs.Placing.{place_none}
use Rattle.enc_ppdb.specs.Fault.{named_tokens, pdb_delta_of}
use Rattle.enc_ppdb.specs.Misplaced.{size_for, is_stray, lesser_of, misplaced_if, is_misplaced, misplaced_row, least_below, debug_token, first_misplaced}
use Rattle.enc_ppdb.specs.Pdb.{points_of}
use Rattle.enc_ppdb.specs.PdbChain.{delta_row, row_in_file}
use Rattle.enc_ppdb.specs.Points.{names_method, row_for}
use Rattle.enc_checker.specs.Check.{new_code, code_size, code_sizes, Accepted, accepted, unless, refused_row, placed_pdb, with_pdb, unless_broken, judged}
use Rattle.enc_session.proofs.Brought.{stands, neither}

-- what is accepted breaks no rule, and its PDB's rows go with its methods
pub record IsPlaced (c : Chain) (a : Accepted) : Type 0 where
  pub rules : first_meta c a.delta ≡ None
  pub placed : (p : Source) → a.pdb ≡ Some p → first_misplaced p (code_sizes a.delta) ≡ None

gives : Accepted → Result Accepted Refusal
gives a = Ok a

same_accepted : (x a : Accepted) → gives x ≡ Ok a → x ≡ a
unfolding gives
same_accepted x a h = cc

of_one : (d p : Source) → first_misplaced p (code_sizes d) ≡ None → (q : Source) → Some p ≡ Some q → first_misplaced q (code_sizes d) ≡ None
of_one d p e q f = let same : p ≡ q = cc in rw (← same) e

by_row : (c : Chain) (d p : Source) (o : Option Token) (a : Accepted) → first_meta c d ≡ None → first_misplaced p (code_sizes d) ≡ o
    → unless (option_map refused_row o) (accepted d (Some p)) ≡ Ok a → IsPlaced c a
unfolding gives
by_row c d p None a rules e h = rw (← same_accepted (accepted d (Some p)) a h) (record { rules = rules; placed = λ q f. of_one d p e q f })
by_row c d p (Some t) a rules e h = absurd cc

by_read : (c : Chain) (d : Source) (r : Result Source Refusal) (a : Accepted) → first_meta c d ≡ None → placed_pdb d r ≡ Ok a → IsPlaced c a
by_read c d (Ok p) a rules h = by_row c d p (first_misplaced p (code_sizes d)) a rules refl h
by_read c d (Err e) a rules h = absurd cc

by_pdb : (c : Chain) (d : Source) (bytes : Option (List ℕ)) (a : Accepted) → first_meta c d ≡ None → with_pdb d bytes ≡ Ok a → IsPlaced c a
unfolding with_pdb gives
by_pdb c d None a rules h = rw (← same_accepted (accepted d None) a h) (record { rules = rules; placed = λ q f. absurd cc })
by_pdb c d (Some bytes) a rules h = by_read c d (pdb_delta_of bytes) a rules h

by_rules : (c : Chain) (d : Source) (r : Option Refusal) (bytes : Option (List ℕ)) (a : Accepted) → first_meta c d ≡ r → unless_broken r d bytes ≡ Ok a
    → IsPlaced c a
by_rules c d None bytes a e h = by_pdb c d bytes a e h
by_rules c d (Some f) bytes a e h = absurd cc

pub is_placed : (c : Chain) (d : Source) (bytes : Option (List ℕ)) (a : Accepted) → judged c (Ok d) bytes ≡ Ok a → IsPlaced c a
is_placed c d bytes a h = by_rules c d (first_meta c d) bytes a refl h

-- where a rule answers nothing below n, it answers nothing at a place below it
some_never : (b : Bool) (n m : ℕ) → (if b then Some n else Some m) ≡ None → ⊥
some_never true n m h = absurd cc
some_never false n m h = absurd cc

none_of_both : (a b : Option ℕ) → lesser_of a b ≡ None → (a ≡ None) × (b ≡ None)
none_of_both None b h = (refl, h)
none_of_both (Some n) None h = absurd cc
none_of_both (Some n) (Some m) h = absurd (some_never (nat_le n m) n m h)

silent_at : (rule : ℕ → Option ℕ) (n k : ℕ) → least_below rule n ≡ None → k < n → rule k ≡ None
unfolding least_below
silent_at rule zero k h lt = absurd (omega (arith, lt))
silent_at rule (suc n) k h lt =
    let both = none_of_both (least_below rule n) (rule n) h in
    elim (cases_lt k n) [
      | inl less ↦ silent_at rule n k both.0 less
      | inr past ↦ let e : n ≡ k = omega (arith, lt, past) in rw e at both.1
    ]

none_mapped : {A B : Type 0} (f : A → B) (o : Option A) → option_map f o ≡ None → o ≡ None
none_mapped f None h = refl
none_mapped f (Some x) h = absurd cc

-- a method that isn't listed has no size among the delta's
other_name : (m u t : Token) → u.table ≡ tables.method_def → t.row ≡ u.row → (m.table == tables.method_def) ≡ true → is_token m u ≡ false
    → names_method m t ≡ false
other_name m u t is same table other = grind (arith, nat_tests, is, same, table, other)

sizes_in : (Token → ℕ) → List Token → List (Token × ℕ)
sizes_in f ts = map (λ (m : Token). (m, f m)) (of_table tables.method_def ts)

unsized : (f : Token → ℕ) (u t : Token) (ts : List Token) → u.table ≡ tables.method_def → t.row ≡ u.row → stands u ts ≡ false
    → size_for (sizes_in f ts) t ≡ None
unfolding size_for sizes_in
unsized f u t [] is same none = refl
unsized f u t (m ∷ ts) is same none =
    let parts = neither (is_token m u) (stands u ts) none in
    by_table (m.table == tables.method_def) refl parts.0 (unsized f u t ts is same parts.1)
  where
    by_table : (b : Bool) → (m.table == tables.method_def) ≡ b → is_token m u ≡ false → size_for (sizes_in f ts) t ≡ None
        → size_for (sizes_in f (m ∷ ts)) t ≡ None
    by_table true e other more = rw (e, other_name m u t is same e other) more
    by_table false e other more = rw e more

-- so no token of a PDB that goes with the delta's methods names it
stray : (b c : Bool) (t : Token) → c ≡ true → misplaced_if (b || c) t ≡ None → ⊥
stray true c t e h = absurd cc
stray false true t e h = absurd cc
stray false false t e h = absurd cc

unnamed_by : (p d : Source) (u : Token) (o : Option ℕ) → u.table ≡ tables.method_def → first_misplaced p (code_sizes d) ≡ None → place_in (listed d) u ≡ None
    → position (names_method u) (named_tokens p) ≡ o → o ≡ None
unfolding first_misplaced misplaced_row is_misplaced code_sizes sizes_in
unnamed_by p d u None is none out e = refl
unnamed_by p d u (Some k) is none out e =
    let first = position-Some (names_method u) (named_tokens p) k u e in
    let t = get_or (named_tokens p) k u in
    let there : slice_get (named_tokens p) k ≡ Some t = slice_get-get_or (named_tokens p) k u first.0 in
    let parts = and_parts (u.table == tables.method_def) (t.row == u.row) first.1 in
    let same : t.row ≡ u.row = eqb-true t.row u.row parts.1 in
    let size : size_for (code_sizes d) t ≡ None = unsized (λ (m : Token). code_size (new_code d m)) u t (listed d) is same (place_none (listed d) u out) in
    let all = none_mapped debug_token (least_below (misplaced_row p (code_sizes d)) (length (named_tokens p))) none in
    let low = slice_get_within (named_tokens p) k t there in
    let row : misplaced_row p (code_sizes d) k ≡ None = silent_at (misplaced_row p (code_sizes d)) (length (named_tokens p)) k all low in
    let one : misplaced_if (is_misplaced p (code_sizes d) k t) t ≡ None = rw there at row in
    absurd (stray _ (is_stray (size_for (code_sizes d) t) (points_of p (nth_row tables.method_debug_information k))) t (rw size refl) one)

no_row : (p d : Source) (u : Token) → u.table ≡ tables.method_def → first_misplaced p (code_sizes d) ≡ None → place_in (listed d) u ≡ None → row_for p u ≡ None
unfolding row_for
no_row p d u is none out =
    ap (option_map (nth_row tables.method_debug_information)) (unnamed_by p d u (position (names_method u) (named_tokens p)) is none out refl)

pub no_delta_row : (d : Source) (o : Option Source) (u : Token) → u.table ≡ tables.method_def
    → ((p : Source) → o ≡ Some p → first_misplaced p (code_sizes d) ≡ None) → place_in (listed d) u ≡ None → delta_row o u ≡ None
no_delta_row d None u is placed out = refl
no_delta_row d (Some p) u is placed out = ap (row_in_file p) (no_row p d u is (placed p refl) out)
