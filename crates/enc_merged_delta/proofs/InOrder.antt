-- Tokens that rise and have just the new rows of each table up to some number have them in order.
use Rattle.std.proofs.Common.{◌≡◌, ◌≢◌, ℕ, zero, suc, ◌+◌, ◌<◌, ◌≤◌, Bool, true, false, not, List, [], ◌∷◌, ◌++◌, length, map, Some, None, refl, sym, ap, ◌∙◌, inl, inr, arith, append_assoc, append-nil}
use Rattle.std.specs.Prelude.{◌&&◌, ◌==◌, slice_get}
use Rattle.std.proofs.Math.Seq.{take-append_seam}
use Rattle.std.proofs.lemmas.Bool.{cases_Bool, cases_eq, cases_lt, or_cases, or_left, or_right}
use Rattle.std.proofs.lemmas.Bool.Decides.{nat_tests}
use Rattle.std.proofs.lemmas.List.{length-append, take-append-le}
use Rattle.enc_base.specs.Token.{is_token, number_of}
use Rattle.enc_base.specs.declared.token.Token.{Token}
use Rattle.enc_base.specs.declared.refusal.Place.{Place}
use Rattle.enc_base.specs.declared.refusal.Place.TheVariants as place
use Rattle.enc_base.proofs.First.{first_none, silent}
use Rattle.enc_plain.specs.Chain.{Chain, rows_before}
use Rattle.enc_plain.proofs.Applied.{same_is}
use Rattle.enc_delta.specs.Rules.{broken, is_insert, inserts, insert_fault_of, insert_fault_at, insert_fault}
use Rattle.enc_delta.proofs.ListsSets.{Rises}
use Rattle.enc_agg.proofs.Counting.{inserts_kept, inserts_elsewhere, inserts_here}
use Rattle.enc_merged_delta.proofs.Among.{lists, self, number_there}
use Rattle.enc_merged_delta.proofs.Silent.{all_silent}

-- a token behind one of a rising list has a greater number
pub past_first : (t : Token) (ts : List Token) (u : Token) → Rises (map number_of (t ∷ ts)) → lists ts u ≡ true → number_of t < number_of u
past_first t ts u up h = up.0 (number_of u) (number_there ts u h)

get_before : {A : Type 0} (xs ys : List A) (k : ℕ) → k < length xs → slice_get (xs ++ ys) k ≡ slice_get xs k
get_before [] ys k low = absurd (omega (arith, low))
get_before (x ∷ xs) ys zero low = refl
get_before (x ∷ xs) ys (suc k) low = get_before xs ys k (omega (arith, low))

get_last : (xs : List Token) (t : Token) → slice_get (xs ++ t ∷ []) (length xs) ≡ Some t
get_last [] t = refl
get_last (x ∷ xs) t = get_last xs t

fault_before : (c : Chain) (xs : List Token) (t : Token) (k : ℕ) → k < length xs → insert_fault_at c (xs ++ t ∷ []) k ≡ insert_fault_at c xs k
unfolding insert_fault_at
fault_before c xs t k low =
    let le : k ≤ length xs = omega (arith, low) in
    rw (get_before xs (t ∷ []) k low, take-append-le k xs (t ∷ []) le) refl

fault_last : (c : Chain) (xs : List Token) (t : Token) → insert_fault_at c (xs ++ t ∷ []) (length xs) ≡ insert_fault_of c xs t
unfolding insert_fault_at
fault_last c xs t = rw (get_last xs t, take-append_seam xs (t ∷ [])) refl

-- one token more that is no insert, or the next one
fault_push : (c : Chain) (xs : List Token) (t : Token) → insert_fault c xs ≡ None → insert_fault_of c xs t ≡ None → insert_fault c (xs ++ t ∷ []) ≡ None
unfolding insert_fault
fault_push c xs t before here =
    all_silent (insert_fault_at c (xs ++ t ∷ [])) (length (xs ++ t ∷ [])) (λ k low. elim (cases_lt k (length xs)) [
      | inl less ↦ fault_before c xs t k less ∙ silent (insert_fault_at c xs) (length xs) k before less
      | inr past ↦
          let all = length-append xs (t ∷ []) in
          let is : k ≡ length xs = omega (arith, all, low, past) in
          rw is (fault_last c xs t ∙ here)
    ])

old_of : (c : Chain) (xs : List Token) (t : Token) → is_insert c t ≡ false → insert_fault_of c xs t ≡ None
unfolding insert_fault_of
old_of c xs t h = rw h refl

both_next : (p : Place) (a b : Bool) → b ≡ true → broken (a && not b) p ≡ None
both_next p true b h = rw h refl
both_next p false b h = refl

new_of : (c : Chain) (xs : List Token) (t : Token) → t.row ≡ rows_before c t.table + inserts c xs t.table + 1 → insert_fault_of c xs t ≡ None
unfolding insert_fault_of
new_of c xs t h =
    let e : (t.row == rows_before c t.table + inserts c xs t.table + 1) ≡ true = grind (arith, nat_tests, h) in
    both_next (place.Row t) (is_insert c t) _ e

-- a row past the rows before is an insert, and one that isn't row 0 is past them
pub is_new : (c : Chain) (u : Token) → rows_before c u.table < u.row → is_insert c u ≡ true
unfolding is_insert
is_new c u h = grind (arith, nat_tests, h)

pub new_is : (c : Chain) (u : Token) → is_insert c u ≡ true → 1 ≤ u.row → rows_before c u.table < u.row
unfolding is_insert
new_is c u h low = grind (arith, nat_tests, h, low)

-- the tokens left are, of the new rows of each table up to so many, just those that come behind those gone over
pub record Exact (c : Chain) (many : ℕ → ℕ) (before ts : List Token) : Type 0 where
  pub few : (t : ℕ) → rows_before c t + inserts c before t ≤ many t
  pub new : (u : Token) → rows_before c u.table + inserts c before u.table < u.row → u.row ≤ many u.table → lists ts u ≡ true
  pub only : (u : Token) → lists ts u ≡ true → is_insert c u ≡ true → (rows_before c u.table + inserts c before u.table < u.row) × (u.row ≤ many u.table)

other_row : (t u : Token) → t.row ≢ u.row → is_token t u ≡ false
other_row t u h = grind (arith, nat_tests)

other_table : (t u : Token) → u.table ≢ t.table → is_token t u ≡ false
other_table t u h = grind (arith, nat_tests)

behind : (t u : Token) (ts : List Token) → is_token t u ≡ false → lists (t ∷ ts) u ≡ true → lists ts u ≡ true
behind t u ts other h = elim (or_cases (is_token t u) (lists ts u) h) [ inl here ↦ let f : true ≡ false = sym here ∙ other in absurd cc | inr more ↦ more ]

-- the first of them that is new is the next row
first_next : (c : Chain) (many : ℕ → ℕ) (before ts : List Token) (t : Token) → Rises (map number_of (t ∷ ts)) → Exact c many before (t ∷ ts) → is_insert c t ≡ true → t.row ≡ rows_before c t.table + inserts c before t.table + 1
first_next c many before ts t up exact is =
    let own = exact.only t (or_left (is_token t t) (lists ts t) (self t)) is in
    let r = rows_before c t.table + inserts c before t.table + 1 in
    let u : Token = record { table = t.table; row = r } in
    let there = exact.new u (omega arith) (omega (arith, own.0, own.1)) in
    elim (cases_eq t.row r) [
      | inl e ↦ e
      | inr other ↦
          let more = past_first t ts u up (behind t u ts (other_row t u other) there) in
          absurd (omega (arith, more, own.0))
    ]

with_new : (c : Chain) (many : ℕ → ℕ) (before ts : List Token) (t : Token) → Rises (map number_of (t ∷ ts)) → Exact c many before (t ∷ ts) → is_insert c t ≡ true → Exact c many (before ++ t ∷ []) ts
with_new c many before ts t up exact is =
    let own = exact.only t (or_left (is_token t t) (lists ts t) (self t)) is in
    let next = first_next c many before ts t up exact is in
    let here = inserts_here c before t is in
    record {
      few = λ k. elim (cases_eq k t.table) [
        | inl same ↦ rw (same, here) (omega (arith, own.1, next))
        | inr other ↦ rw (inserts_elsewhere c before t k other) (exact.few k)
      ];
      new = λ u low high. elim (cases_eq u.table t.table) [
        | inl same ↦
            let past : rows_before c t.table + (inserts c before t.table + 1) < u.row = rw (same, here) at low in
            let apart : t.row ≢ u.row = λ e. absurd (omega (arith, e, past, next)) in
            behind t u ts (other_row t u apart) (exact.new u (rw same (omega (arith, past))) high)
        | inr other ↦
            let past : rows_before c u.table + inserts c before u.table < u.row = rw (inserts_elsewhere c before t u.table other) at low in
            behind t u ts (other_table t u other) (exact.new u past high)
      ];
      only = λ u there new.
          let all = exact.only u (or_right (is_token t u) (lists ts u) there) new in
          elim (cases_eq u.table t.table) [
            | inl same ↦
                let more = past_first t ts u up there in
                (rw (same, here) (omega (arith, more, next, same)), all.1)
            | inr other ↦ (rw (inserts_elsewhere c before t u.table other) all.0, all.1)
          ];
    }

with_old : (c : Chain) (many : ℕ → ℕ) (before ts : List Token) (t : Token) → Exact c many before (t ∷ ts) → is_insert c t ≡ false → Exact c many (before ++ t ∷ []) ts
with_old c many before ts t exact is = record {
  few = λ k. rw (inserts_kept c before t k is) (exact.few k);
  new = λ u low high.
      let past : rows_before c u.table + inserts c before u.table < u.row = rw (inserts_kept c before t u.table is) at low in
      elim (cases_Bool (is_token t u)) [
        | inl same ↦
            let e : t ≡ u = same_is t u same in
            let f : true ≡ false = sym (is_new c u (omega (arith, past))) ∙ ap (is_insert c) (sym e) ∙ is in
            absurd cc
        | inr other ↦ behind t u ts other (exact.new u past high)
      ];
  only = λ u there new.
      let all = exact.only u (or_right (is_token t u) (lists ts u) there) new in
      (rw (inserts_kept c before t u.table is) all.0, all.1);
}

-- so each new row is the next of its table, and there are so many
pub record Ordered (c : Chain) (many : ℕ → ℕ) (ts : List Token) : Type 0 where
  pub fault : insert_fault c ts ≡ None
  pub rows : (t : ℕ) → rows_before c t + inserts c ts t ≡ many t

none_left : (c : Chain) (many : ℕ → ℕ) (before : List Token) → Exact c many before [] → (t : ℕ) → rows_before c t + inserts c before t ≡ many t
none_left c many before exact t =
    let few = exact.few t in
    let n = rows_before c t + inserts c before t in
    elim (cases_lt n (many t)) [
      | inl less ↦ let f : false ≡ true = exact.new (record { table = t; row = n + 1 }) (omega arith) (omega (arith, less)) in absurd cc
      | inr past ↦ omega (arith, few, past)
    ]

in_order : (c : Chain) (many : ℕ → ℕ) (ts before : List Token) → Rises (map number_of ts) → Exact c many before ts → insert_fault c before ≡ None → Ordered c many (before ++ ts)
in_order c many [] before up exact none = rw (append-nil before) (record { fault = none; rows = none_left c many before exact })
in_order c many (t ∷ ts) before up exact none =
    rw (← append_assoc before (t ∷ []) ts) (elim (cases_Bool (is_insert c t)) [
      | inl new ↦ in_order c many ts (before ++ t ∷ []) up.1 (with_new c many before ts t up exact new) (fault_push c before t none (new_of c before t (first_next c many before ts t up exact new)))
      | inr old ↦ in_order c many ts (before ++ t ∷ []) up.1 (with_old c many before ts t exact old) (fault_push c before t none (old_of c before t old))
    ])

no_fault : (c : Chain) → insert_fault c [] ≡ None
unfolding insert_fault
no_fault c = first_none _

pub ordered : (c : Chain) (many : ℕ → ℕ) (ts : List Token) → Rises (map number_of ts) → Exact c many [] ts → Ordered c many ts
ordered c many ts up exact = in_order c many ts [] up exact (no_fault c)
