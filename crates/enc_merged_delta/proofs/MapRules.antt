-- The rules on EncMap and on the tables that its tokens stand for, of which the merged delta breaks none.
use Rattle.std.proofs.Common.{◌≡◌, ℕ, ◌+◌, ◌<◌, ◌≤◌, Bool, true, false, not, List, [], ◌∷◌, length, map, None, refl, sym, ◌∙◌, inl, inr, arith}
use Rattle.std.specs.Prelude.{◌||◌, ◌==◌, nat_lt, nat_le, filter}
use Rattle.std.specs.List.{list_any}
use Rattle.std.proofs.lemmas.Bool.{cases_Bool, or_cases, or_left, or_right}
use Rattle.std.proofs.lemmas.Bool.Decides.{nat_tests}
use Rattle.std.proofs.lemmas.List.{length-append}
use Rattle.enc_base.specs.Token.{is_token, number_of}
use Rattle.enc_base.specs.declared.refusal.Place.TheVariants as place
use Rattle.enc_base.specs.declared.token.Token.{Token}
use Rattle.enc_base.proofs.First.{silent}
use Rattle.enc_plain.specs.Chain.{Chain}
use Rattle.enc_plain.proofs.Applied.{same_is}
use Rattle.enc_rows.specs.Layout.{rows_of}
use Rattle.enc_schema.specs.Columns as columns
use Rattle.enc_base.specs.Tables as tables
use Rattle.enc_rows.specs.Source.{Source}
use Rattle.enc_delta.specs.Delta.{listed, of_table}
use Rattle.enc_delta.specs.Judged.{late_token, skipped_row}
use Rattle.enc_delta.specs.Rules.{stands_in, late, late_fault, module_token, own_guid, rows_for, rows_with, uneven_at, uneven_table, too_many_in, too_many}
use Rattle.enc_delta.proofs.ListsSets.{Rises, rises}
use Rattle.enc_delta.proofs.Unbroken.{landed, unbroken}
use Rattle.enc_agg.specs.Extend.{extended}
use Rattle.enc_agg.specs.Follows.{Lands}
use Rattle.enc_agg.proofs.InTables.{rows_are}
use Rattle.enc_merged_delta.specs.Laws.{KeepsMerged}
use Rattle.enc_merged_delta.specs.Merged.{has_tokens, is_in_map}
use Rattle.enc_merged_delta.proofs.Among.{lists, self}
use Rattle.enc_merged_delta.proofs.Silent.{unbroken_is, first_silent, all_silent}
use Rattle.enc_merged_delta.proofs.Counts.{in_order, counts_are, rows_second}

-- of numbers that rise none is late
none_low : (n : ℕ) (ns : List ℕ) → ((t : ℕ) → stands_in ns t ≡ true → n < t) → filter (λ m. nat_le m n) ns ≡ []
none_low n [] past = refl
none_low n (m ∷ ms) past =
    let more : n < m = past m (or_left (m == m) (stands_in ms m) (grind (arith, nat_tests))) in
    let here : nat_le m n ≡ false = grind (arith, nat_tests, more) in
    rw here (none_low n ms (λ t h. past t (or_right (m == t) (stands_in ms t) h)))

none_late : (ns : List ℕ) → Rises ns → late ns ≡ []
none_late [] up = refl
none_late (n ∷ ns) up = rw (none_low n ns up.0) (none_late ns up.1)

-- E6
pub keeps_rising : KeepsMerged late_token
unfolding late_token late_fault
keeps_rising c a b s may says = rw (none_late (map number_of (listed s)) (rises (map number_of (listed s)) says.rises)) refl

-- Module, EncLog and EncMap have no tokens
abbrev pub is_apart : ℕ → Bool
is_apart table = list_any (λ t. t == table) (tables.«module» ∷ tables.enc_log ∷ tables.enc_map ∷ [])

flipped : (a b : ℕ) → (a == b) ≡ (b == a)
flipped a b = elim (cases_Bool (a == b)) [
  | inl h ↦ grind (arith, nat_tests, h)
  | inr h ↦ grind (arith, nat_tests, h)
]

with_tokens : (x y z : Bool) → (x || (y || (z || false))) ≡ false → not ((x || y) || z) ≡ true
with_tokens false false false h = refl
with_tokens false false true h = absurd cc
with_tokens false true z h = absurd cc
with_tokens true y z h = absurd cc

pub others_have : (table : ℕ) → is_apart table ≡ false → has_tokens table ≡ true
others_have table h = rw (flipped table tables.«module», flipped table tables.enc_log, flipped table tables.enc_map) (with_tokens (tables.«module» == table) (tables.enc_log == table) (tables.enc_map == table) h)

no_rows : (s : Source) (table : ℕ) → is_apart table ≡ true → rows_for s table ≡ 0
no_rows s table h = rw h refl

own_rows : (s : Source) (table : ℕ) → is_apart table ≡ false → rows_for s table ≡ rows_of s.layout table
own_rows s table h = rw h refl

some_there : (table : ℕ) (ts : List Token) (u : Token) → lists ts u ≡ true → u.table ≡ table → 0 < length (of_table table ts)
some_there table [] u h e = absurd cc
some_there table (t ∷ ts) u h e = elim (cases_Bool (t.table == table)) [
  | inl own ↦ rw own (omega arith)
  | inr other ↦ rw other (elim (or_cases (is_token t u) (lists ts u) h) [
    | inl here ↦
        let same : t ≡ u = same_is t u here in
        let f : (t.table == table) ≡ true = rw same (grind (arith, nat_tests, e)) in
        let g : true ≡ false = sym f ∙ other in
        absurd cc
    | inr behind ↦ some_there table ts u behind e
  ])
]

none_there : (table : ℕ) (ts : List Token) → ((u : Token) → lists ts u ≡ true → u.table ≡ table → ⊥) → length (of_table table ts) ≡ 0
none_there table [] other = refl
none_there table (t ∷ ts) other = elim (cases_Bool (t.table == table)) [
  | inl own ↦ absurd (other t (or_left (is_token t t) (lists ts t) (self t)) (grind (arith, nat_tests, own)))
  | inr apart ↦ rw apart (none_there table ts (λ u h e. other u (or_right (is_token t u) (lists ts u) h) e))
]

-- a delta that lands has no tokens of those tables
pub none_apart : (c : Chain) (s : Source) (table : ℕ) (u : Token) → Lands c s → table < 0x100 → is_apart table ≡ true → is_in_map s u ≡ true → u.table ≡ table → ⊥
none_apart c s table u f low apart h e =
    let some = some_there table (listed s) u h e in
    let rows = rows_are s table (landed c s f.early).tables low in
    let none = no_rows s table apart in
    omega (arith, some, rows, none)

even : (s : Source) (table : ℕ) → rows_for s table ≡ length (of_table table (listed s)) → uneven_at s table ≡ None
unfolding uneven_at
even s table e =
    let same : (rows_for s table == length (of_table table (listed s))) ≡ true = grind (arith, nat_tests, e) in
    rw same refl

-- E7
pub keeps_even : KeepsMerged (λ c s. uneven_table s)
unfolding uneven_table
keeps_even c a b s may says = all_silent (uneven_at s) 0x100 (λ table low. even s table (elim (cases_Bool (is_apart table)) [
  | inl apart ↦ no_rows s table apart ∙ sym (none_there table (listed s) (λ u h e. elim (or_cases (is_in_map a u) (is_in_map b u) (sym (says.tokens u) ∙ h)) [
    | inl first ↦ none_apart c a table u may.first.lands low apart first e
    | inr second ↦ none_apart (extended c a) b table u may.second.lands low apart second e
  ]))
  | inr other ↦ own_rows s table other ∙ says.counts table (others_have table other)
]))

-- E8
pub keeps_order : KeepsMerged skipped_row
unfolding skipped_row
keeps_order c a b s may says = (in_order c a b s may says).fault

-- E24
one_more_id : (c : Chain) (a : Source) → length (extended c a).ids ≡ length c.ids + 1
unfolding extended
one_more_id c a = length-append c.ids (own_guid c a columns.module_enc_id ∷ [])

-- there aren't too many deltas with this one, nor too many rows in a table
record Few (c : Chain) (s : Source) : Type 0 where
  ids : length c.ids + 1 ≤ 65535
  rows : (table : ℕ) → table < 0x2D → rows_with c (listed s) table ≤ 0xFFFFFF

few_of : (c : Chain) (s : Source) → too_many c s ≡ None → Few c s
unfolding too_many too_many_in
few_of c s h =
    let both = first_silent (nat_lt 65535 (length c.ids + 1)) (place.Row module_token) _ h in
    let ids : nat_lt 65535 (length c.ids + 1) ≡ false = both.0 in
    record {
      ids = grind (arith, nat_tests, ids);
      rows = λ table low.
          let few : nat_lt 0xFFFFFF (rows_with c (listed s) table) ≡ false = unbroken_is _ (place.Row module_token) (silent (too_many_in c s) 0x2D table both.1 low) in
          grind (arith, nat_tests, few);
    }

pub keeps_few : KeepsMerged too_many
unfolding too_many too_many_in
keeps_few c a b s may says =
    let few = few_of (extended c a) b (unbroken (extended c a) b may.second.rules).limit in
    let more = one_more_id c a in
    let ids : nat_lt 65535 (length c.ids + 1) ≡ false = let n = few.ids in grind (arith, nat_tests, n, more) in
    rw ids (all_silent (too_many_in c s) 0x2D (λ table low.
    let n : rows_with c (listed s) table ≤ 0xFFFFFF = omega (arith, few.rows table low, counts_are c a b s may says table, rows_second c a b may table) in
    let rows : nat_lt 0xFFFFFF (rows_with c (listed s) table) ≡ false = grind (arith, nat_tests, n) in
    rw rows refl))
