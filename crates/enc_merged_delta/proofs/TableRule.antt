-- The merged delta has rows only in tables that may change.
use Rattle.std.proofs.Common.{◌≡◌, ℕ, zero, suc, ◌<◌, Bool, true, false, List, [], ◌∷◌, length, Option, Some, None, refl, sym, ◌∙◌, inl, inr, arith}
use Rattle.std.specs.Prelude.{◌&&◌, ◌==◌, not, nat_lt, slice_get}
use Rattle.std.proofs.lemmas.Bool.{cases_Bool, or_cases}
use Rattle.std.proofs.lemmas.Bool.Decides.{nat_tests}
use Rattle.enc_base.specs.declared.refusal.Place.TheVariants as place
use Rattle.enc_base.specs.declared.refusal.Place.{Place}
use Rattle.enc_base.specs.declared.token.Token.{Token}
use Rattle.enc_plain.specs.Chain.{Chain}
use Rattle.enc_rows.specs.Layout.{rows_of}
use Rattle.enc_rows.specs.Source.{Source}
use Rattle.enc_base.specs.Tables as tables
use Rattle.enc_delta.specs.Delta.{listed, of_table, place_in}
use Rattle.enc_delta.specs.Rules.{broken, may_change, closed_at, closed_table}
use Rattle.enc_delta.proofs.Unbroken.{landed}
use Rattle.enc_agg.specs.Extend.{extended}
use Rattle.enc_agg.specs.Follows.{Lands}
use Rattle.enc_agg.proofs.InTables.{may_be}
use Rattle.enc_agg.proofs.Tokens.{place_row}
use Rattle.enc_merged_delta.specs.Laws.{KeepsMerged}
use Rattle.enc_merged_delta.specs.Merged.{MayMerge, SaysMerged, has_tokens, is_in_map}
use Rattle.enc_merged_delta.proofs.Silent.{all_silent}
use Rattle.enc_merged_delta.proofs.BothModules.{in_table, unplaced}

-- a delta that lands has its tokens in tables that may change
may_hold : (c : Chain) (s : Source) (u : Token) → Lands c s → is_in_map s u ≡ true → may_change u.table ≡ true
may_hold c s u f there = by (place_in (listed s) u) refl
  where
    by : (o : Option ℕ) → place_in (listed s) u ≡ o → may_change u.table ≡ true
    by None e = let none = sym there ∙ unplaced s u e in absurd cc
    by (Some k) e =
        let at = place_row c s u k f e in
        may_be s u.table (landed c s f.early).cell_tables (omega (arith, at.table)) (omega (arith, at.low, at.high))

own_tables : (table : ℕ) → has_tokens table ≡ false → may_change table ≡ true
own_tables table h = elim (cases_Bool (table == tables.«module»)) [
  | inl e ↦ let is : table ≡ tables.«module» = grind (arith, nat_tests, e) in rw is refl
  | inr x ↦ elim (cases_Bool (table == tables.enc_log)) [
    | inl e ↦ let is : table ≡ tables.enc_log = grind (arith, nat_tests, e) in rw is refl
    | inr y ↦ elim (cases_Bool (table == tables.enc_map)) [
      | inl e ↦ let is : table ≡ tables.enc_map = grind (arith, nat_tests, e) in rw is refl
      | inr z ↦ let f : true ≡ false = rw (x, y, z) at h in absurd cc
    ]
  ]
]

first_of : {A : Type 0} (xs : List A) → 0 < length xs → (x : A) × (slice_get xs 0 ≡ Some x)
first_of [] some = absurd (omega arith)
first_of (x ∷ xs) some = (x, refl)

both_change : (c : Chain) (a b s : Source) (table : ℕ) → MayMerge c a b → SaysMerged c a b s → has_tokens table ≡ true → 0 < rows_of s.layout table → may_change table ≡ true
both_change c a b s table may says own some =
    let u = first_of (of_table table (listed s)) (omega (arith, says.counts table own, some)) in
    let in_ = in_table table (listed s) 0 u.0 u.1 in
    rw (← in_.0) (elim (or_cases (is_in_map a u.0) (is_in_map b u.0) (sym (says.tokens u.0) ∙ in_.1)) [
      | inl first ↦ may_hold c a u.0 may.first.lands first
      | inr second ↦ may_hold (extended c a) b u.0 may.second.lands second
    ])

silent_at : (n : ℕ) (changes : Bool) (p : Place) → (0 < n → changes ≡ true) → broken (nat_lt 0 n && not changes) p ≡ None
silent_at zero changes p h = refl
silent_at (suc n) changes p h = rw (h (omega arith)) (always (nat_lt 0 (suc n)))
  where
    always : (b : Bool) → broken (b && false) p ≡ None
    always true = refl
    always false = refl

-- E12
pub keeps_open : KeepsMerged (λ c s. closed_table s)
unfolding closed_table closed_at
keeps_open c a b s may says = all_silent (closed_at s) 0x100 (λ table low.
    silent_at (rows_of s.layout table) (may_change table) (place.Row (record { table = table; row = 0 })) (λ some. elim (cases_Bool (has_tokens table)) [
      | inl own ↦ both_change c a b s table may says own some
      | inr other ↦ own_tables table other
    ]))
