-- The tokens of the merged delta, and how many rows each table has after it.
use Rattle.std.proofs.Common.{◌≡◌, ℕ, ◌+◌, ◌<◌, ◌≤◌, true, List, [], ◌∷◌, ◌++◌, map, refl, sym, ◌∙◌, inl, inr, arith, append_assoc, append-nil}
use Rattle.std.specs.Prelude.{nat_lt}
use Rattle.std.specs.List.{list_all}
use Rattle.std.specs.List.Sorted.{IsStrictlyIncreasing}
use Rattle.std.proofs.lemmas.Bool.{cases_Bool, cases_eq, cases_lt, or_cases, or_left, or_right}
use Rattle.std.proofs.lemmas.Bool.Decides.{nat_tests}
use Rattle.enc_base.specs.Token.{is_token, number_of}
use Rattle.enc_base.specs.declared.token.Token.{Token}
use Rattle.enc_rows.specs.Source.{Source}
use Rattle.enc_plain.specs.Chain.{Chain, rows_before}
use Rattle.enc_plain.specs.Sound.{HasTables}
use Rattle.enc_plain.proofs.Applied.{same_is}
use Rattle.enc_delta.specs.Delta.{listed}
use Rattle.enc_delta.specs.Rules.{is_insert, inserts, rows_with}
use Rattle.enc_delta.proofs.ListsSets.{rises}
use Rattle.enc_delta.proofs.ListsInserts.{inserts_none}
use Rattle.enc_agg.specs.Extend.{extended}
use Rattle.enc_agg.specs.Follows.{Lands}
use Rattle.enc_agg.proofs.Counting.{next_row, old_row, inserts_kept, inserts_elsewhere, inserts_here}
use Rattle.enc_agg.proofs.Fitting.{Good, first_good, rest_good, good_tokens, has_tables, count_is}
use Rattle.enc_agg.proofs.Changed.{Within, rows_within}
use Rattle.enc_merged_delta.specs.Merged.{MayMerge, SaysMerged, after_both, is_in_map, is_in_either}
use Rattle.enc_merged_delta.proofs.Among.{lists, one_of_all, all_if_each}
use Rattle.enc_merged_delta.proofs.InOrder.{new_is, Exact, Ordered, ordered}

within_at : (count : ℕ → ℕ) (ts : List Token) (u : Token) → Within count ts → lists ts u ≡ true → (u.row ≤ count u.table) × (u.row < 0x1000000)
within_at count [] u all h = absurd cc
within_at count (t ∷ ts) u all h = elim (or_cases (is_token t u) (lists ts u) h) [
  | inl here ↦ let same : t ≡ u = same_is t u here in rw (← same) (all.0, all.1)
  | inr behind ↦ within_at count ts u all.2 behind
]

first_low : (c : Chain) (before ts : List Token) (t : Token) → Good c before (t ∷ ts) → 1 ≤ t.row
first_low c before ts t good = elim (cases_Bool (is_insert c t)) [
  | inl new ↦ let e = next_row c before t (first_good c before ts t good) new in omega (arith, e)
  | inr old ↦ let e = (old_row c t old).0 in omega (arith, e)
]

low_at : (c : Chain) (before ts : List Token) (u : Token) → Good c before ts → lists ts u ≡ true → 1 ≤ u.row
low_at c before [] u good h = absurd cc
low_at c before (t ∷ ts) u good h = elim (or_cases (is_token t u) (lists ts u) h) [
  | inl here ↦ let same : t ≡ u = same_is t u here in rw (← same) (first_low c before ts t good)
  | inr behind ↦ low_at c (before ++ t ∷ []) ts u (rest_good c before ts t good) behind
]

-- a token of a delta names a row of a table
pub record Held (c : Chain) (s : Source) (u : Token) : Type 0 where
  pub table : u.table < 0x2D
  pub low : 1 ≤ u.row
  pub high : u.row ≤ rows_with c (listed s) u.table
  pub small : u.row < 0x1000000

pub held : (c : Chain) (s : Source) (u : Token) → Lands c s → is_in_map s u ≡ true → Held c s u
held c s u f h =
    let good = good_tokens c s f in
    let all = within_at (rows_with c (listed s)) (listed s) u (rows_within c (listed s) (listed s) [] refl good) h in
    let few : nat_lt u.table 0x2D ≡ true = one_of_all (λ (t : Token). nat_lt t.table 0x2D) (listed s) u good.tables h in
    record { table = grind (arith, nat_tests, few); low = low_at c [] (listed s) u good h; high = all.0; small = all.1 }

-- and each new row has its token
new_from : (c : Chain) (before ts : List Token) (u : Token) → Good c before ts → rows_before c u.table + inserts c before u.table < u.row → u.row ≤ rows_before c u.table + inserts c (before ++ ts) u.table → lists ts u ≡ true
new_from c before [] u good low high = absurd (omega (arith, low, rw (append-nil before) at high))
new_from c before (t ∷ ts) u good low high =
    let more : u.row ≤ rows_before c u.table + inserts c ((before ++ t ∷ []) ++ ts) u.table = rw (append_assoc before (t ∷ []) ts) high in
    let rest = rest_good c before ts t good in
    elim (cases_Bool (is_insert c t)) [
      | inr old ↦ or_right (is_token t u) (lists ts u) (new_from c (before ++ t ∷ []) ts u rest (rw (inserts_kept c before t u.table old) low) more)
      | inl new ↦ elim (cases_eq u.table t.table) [
        | inr other ↦ or_right (is_token t u) (lists ts u) (new_from c (before ++ t ∷ []) ts u rest (rw (inserts_elsewhere c before t u.table other) low) more)
        | inl same ↦
            let next = next_row c before t (first_good c before ts t good) new in
            let here = inserts_here c before t new in
            let past : rows_before c t.table + inserts c before t.table < u.row = rw same at low in
            elim (cases_eq u.row t.row) [
              | inl e ↦ or_left (is_token t u) (lists ts u) (grind (arith, nat_tests, same, e))
              | inr apart ↦ or_right (is_token t u) (lists ts u) (new_from c (before ++ t ∷ []) ts u rest (rw (same, here) (omega (arith, past, next, apart))) more)
            ]
      ]
    ]

pub new_listed : (c : Chain) (s : Source) (u : Token) → Lands c s → rows_before c u.table < u.row → u.row ≤ rows_with c (listed s) u.table → is_in_map s u ≡ true
unfolding rows_with
new_listed c s u f low high =
    let none = inserts_none c u.table in
    new_from c [] (listed s) u (good_tokens c s f) (omega (arith, none, low)) high

-- the rows after the first and after both
pub tables_after : (c : Chain) (a b : Source) → MayMerge c a b → HasTables (extended c a).plain
tables_after c a b may = has_tables c a may.sound.owners.tables

pub rows_first : (c : Chain) (a b : Source) → MayMerge c a b → (t : ℕ) → rows_before (extended c a) t ≡ rows_with c (listed a) t
rows_first c a b may t = count_is c a may.sound.owners.tables may.first.lands t

pub rows_second : (c : Chain) (a b : Source) → MayMerge c a b → (t : ℕ) → rows_before (after_both c a b) t ≡ rows_with (extended c a) (listed b) t
rows_second c a b may t = count_is (extended c a) b (tables_after c a b may) may.second.lands t

-- no table has fewer after a delta
pub grows : (c : Chain) (tokens : List Token) (t : ℕ) → rows_before c t ≤ rows_with c tokens t
unfolding rows_with
grows c tokens t = omega arith

-- the merged delta lists just the new rows of both, and other tokens that aren't new
exact : (c : Chain) (a b s : Source) → MayMerge c a b → ((u : Token) → is_in_map s u ≡ is_in_either a b u) → Exact c (rows_before (after_both c a b)) [] (listed s)
exact c a b s may tokens =
    let first = rows_first c a b may in
    let second = rows_second c a b may in
    record {
      few = λ t. omega (arith, first t, second t, grows c (listed a) t, grows (extended c a) (listed b) t, inserts_none c t);
      new = λ u low high.
          let past : rows_before c u.table < u.row = omega (arith, low, inserts_none c u.table) in
          tokens u ∙ elim (cases_lt (rows_before (extended c a) u.table) u.row) [
            | inl more ↦ or_right (is_in_map a u) (is_in_map b u) (new_listed (extended c a) b u may.second.lands more (omega (arith, high, second u.table)))
            | inr low ↦ or_left (is_in_map a u) (is_in_map b u) (new_listed c a u may.first.lands past (omega (arith, low, first u.table)))
          ];
      only = λ u there new. elim (or_cases (is_in_map a u) (is_in_map b u) (sym (tokens u) ∙ there)) [
        | inl by_first ↦
            let h = held c a u may.first.lands by_first in
            let low = new_is c u new h.low in
            (omega (arith, low, inserts_none c u.table), omega (arith, h.high, first u.table, second u.table, grows (extended c a) (listed b) u.table))
        | inr by_second ↦
            let h = held (extended c a) b u may.second.lands by_second in
            let low = new_is c u new h.low in
            (omega (arith, low, inserts_none c u.table), omega (arith, h.high, second u.table))
      ];
    }

-- so it is of any delta whose tokens are theirs and rise
pub order_of : (c : Chain) (a b s : Source) → MayMerge c a b → IsStrictlyIncreasing (map number_of (listed s)) → ((u : Token) → is_in_map s u ≡ is_in_either a b u)
    → Ordered c (rows_before (after_both c a b)) (listed s)
order_of c a b s may up tokens = ordered c (rows_before (after_both c a b)) (listed s) (rises (map number_of (listed s)) up) (exact c a b s may tokens)

pub in_order : (c : Chain) (a b s : Source) → MayMerge c a b → SaysMerged c a b s → Ordered c (rows_before (after_both c a b)) (listed s)
in_order c a b s may says = order_of c a b s may says.rises says.tokens

-- each table has as many rows after the merged delta as after both
pub counts_are : (c : Chain) (a b s : Source) → MayMerge c a b → SaysMerged c a b s → (t : ℕ) → rows_with c (listed s) t ≡ rows_before (after_both c a b) t
unfolding rows_with
counts_are c a b s may says t = (in_order c a b s may says).rows t

-- and as many new rows as both insert
pub inserts_are : (c : Chain) (a b s : Source) → MayMerge c a b → SaysMerged c a b s → (t : ℕ) → inserts c (listed s) t ≡ inserts c (listed a) t + inserts (extended c a) (listed b) t
unfolding rows_with
inserts_are c a b s may says t = omega (arith, counts_are c a b s may says t, rows_first c a b may t, rows_second c a b may t)

-- a token of the merged delta is one of the first's or of the second's, and names a row of a table
pub record HeldByBoth (c : Chain) (a b : Source) (u : Token) : Type 0 where
  pub either : is_in_either a b u ≡ true
  pub table : u.table < 0x2D
  pub low : 1 ≤ u.row
  pub high : u.row ≤ rows_before (after_both c a b) u.table
  pub small : u.row < 0x1000000

pub held_by_both : (c : Chain) (a b s : Source) (u : Token) → MayMerge c a b → SaysMerged c a b s → is_in_map s u ≡ true → HeldByBoth c a b u
held_by_both c a b s u may says there =
    let either = sym (says.tokens u) ∙ there in
    elim (or_cases (is_in_map a u) (is_in_map b u) either) [
      | inl by_first ↦
          let h = held c a u may.first.lands by_first in
          record { either = either; table = h.table; low = h.low; high = omega (arith, h.high, rows_first c a b may u.table, rows_second c a b may u.table, grows (extended c a) (listed b) u.table); small = h.small }
      | inr by_second ↦
          let h = held (extended c a) b u may.second.lands by_second in
          record { either = either; table = h.table; low = h.low; high = omega (arith, h.high, rows_second c a b may u.table); small = h.small }
    ]

-- the same of all of them
pub all_tables : (c : Chain) (a b s : Source) → MayMerge c a b → SaysMerged c a b s → list_all (λ (t : Token). nat_lt t.table 0x2D) (listed s) ≡ true
all_tables c a b s may says = all_if_each (λ (t : Token). nat_lt t.table 0x2D) (listed s) (λ u h. let low = (held_by_both c a b s u may says h).table in grind (arith, nat_tests, low))

pub all_rows : (c : Chain) (a b s : Source) → MayMerge c a b → SaysMerged c a b s → list_all (λ (t : Token). nat_lt t.row 0x1000000) (listed s) ≡ true
all_rows c a b s may says = all_if_each (λ (t : Token). nat_lt t.row 0x1000000) (listed s) (λ u h. let low = (held_by_both c a b s u may says h).small in grind (arith, nat_tests, low))
