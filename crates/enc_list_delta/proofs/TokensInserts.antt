-- The new rows among the tokens that a list writes: each is the next of its table, and there are as many as the list adds.
use Rattle.std.proofs.Common.{◌≡◌, ◌≢◌, ℕ, zero, suc, ◌+◌, ◌-◌, ◌<◌, ◌≤◌, Bool, true, false, List, [], ◌∷◌, ◌++◌, length, cond, Option, None, refl, sym, ap, ◌∙◌, inl, inr, arith, append_assoc}
use Rattle.std.specs.Prelude.{slice_get, ◌&&◌, ◌==◌, not, nat_lt, flat_map}
use Rattle.std.specs.List.{range_with_len}
use Rattle.std.proofs.Math.Seq.{take-append_seam}
use Rattle.std.proofs.lemmas.Bool.{cases_lt, cases_Bool}
use Rattle.std.proofs.lemmas.Bool.Decides.{nat_tests}
use Rattle.std.proofs.lemmas.List.{append-nil, length-append, take-append-le}
use Rattle.std.proofs.lemmas.List.Sums.{sum_by-cons}
use Rattle.enc_base.specs.Order.{first_below}
use Rattle.enc_base.specs.Token.{nth_row}
use Rattle.enc_base.specs.declared.token.Token.{Token}
use Rattle.enc_base.specs.declared.refusal.Place.{Place}
use Rattle.enc_base.specs.declared.refusal.Place.TheVariants as place
use Rattle.enc_base.proofs.First.{first_none, first_more, silent}
use Rattle.enc_plain.specs.Chain.{Chain, rows_before}
use Rattle.enc_rows.specs.Source.{Source}
use Rattle.enc_rows.specs.Sums.{below}
use Rattle.enc_delta.specs.Delta.{listed, of_table}
use Rattle.enc_delta.specs.Rules.{broken, is_insert, inserts, rows_with, insert_fault_of, insert_fault_at, insert_fault}
use Rattle.enc_agg.proofs.Counting.{inserts_kept, inserts_elsewhere, inserts_here}
use Rattle.enc_edit_list.specs.Added.{rows_added}
use Rattle.enc_edit_list.specs.declared.edit.EditList.{EditList}
use Rattle.enc_rules.specs.Listed.{count_after}
use Rattle.enc_delta.proofs.ListsInserts.{inserts_none}
use Rattle.enc_memory_module.proofs.Unbroken.{BreakNothing}
use Rattle.enc_memory_module.proofs.Split.{seam}
use Rattle.enc_list_delta.specs.Delta.{is_edited, tokens_written, map_written}
use Rattle.enc_list_delta.specs.Holds.{MayFollow, SaysDelta}
use Rattle.enc_list_delta.proofs.TokensUnbroken.{nothing_breaks}
use Rattle.enc_list_delta.proofs.TokensAbout.{stands_after, new_about}
use Rattle.enc_list_delta.proofs.TokensWritten.{passing, one_more, none_below}
use Rattle.enc_list_delta.proofs.Tokens.{map_of_table, listed_is}

-- a rule that answers nowhere below n has no first answer there
pub all_silent : {A : Type 0} (rule : ℕ → Option A) (n : ℕ) → ((k : ℕ) → k < n → rule k ≡ None) → first_below rule n ≡ None
all_silent rule zero each = first_none rule
all_silent rule (suc n) each =
    let e : suc n ≡ n + 1 = omega arith in
    rw e (first_more rule n (all_silent rule n (λ k low. each k (omega (arith, low)))) ∙ each n (omega arith))

-- an item of a list with more behind it
pub get_before : {A : Type 0} (xs ys : List A) (k : ℕ) → k < length xs → slice_get (xs ++ ys) k ≡ slice_get xs k
get_before [] ys k low = absurd (omega (arith, low))
get_before (x ∷ xs) ys zero low = refl
get_before (x ∷ xs) ys (suc k) low = get_before xs ys k (omega (arith, low))

fault_before : (c : Chain) (xs : List Token) (t : Token) (k : ℕ) → k < length xs → insert_fault_at c (xs ++ t ∷ []) k ≡ insert_fault_at c xs k
unfolding insert_fault_at
fault_before c xs t k low =
    let le : k ≤ length xs = omega (arith, low) in
    rw (get_before xs (t ∷ []) k low, take-append-le k xs (t ∷ []) le) refl

fault_last : (c : Chain) (xs : List Token) (t : Token) → insert_fault_at c (xs ++ t ∷ []) (length xs) ≡ insert_fault_of c xs t
unfolding insert_fault_at
fault_last c xs t = rw (seam xs [] t, take-append_seam xs (t ∷ [])) refl

-- one token more that is no insert, or the next one
fault_push : (c : Chain) (xs : List Token) (t : Token) → insert_fault c xs ≡ None → insert_fault_of c xs t ≡ None → insert_fault c (xs ++ t ∷ []) ≡ None
unfolding insert_fault
fault_push c xs t before here =
    all_silent (insert_fault_at c (xs ++ t ∷ [])) (length (xs ++ t ∷ [])) (λ k low. elim (cases_lt k (length xs)) [
      | inl less ↦ fault_before c xs t k less ∙ silent (insert_fault_at c xs) (length xs) k before less
      | inr past ↦
          let all = length-append xs (t ∷ []) in
          let is : k ≡ length xs = omega (arith, all, low, past) in
          rw is (fault_last c xs t ∙ here)
    ])

old_of : (c : Chain) (xs : List Token) (t : Token) → is_insert c t ≡ false → insert_fault_of c xs t ≡ None
unfolding insert_fault_of
old_of c xs t h = rw h refl

both_next : (p : Place) (a b : Bool) → b ≡ true → broken (a && not b) p ≡ None
both_next p true b h = rw h refl
both_next p false b h = refl

new_of : (c : Chain) (xs : List Token) (t : Token) → t.row ≡ rows_before c t.table + inserts c xs t.table + 1 → insert_fault_of c xs t ≡ None
unfolding insert_fault_of
new_of c xs t h =
    let e : (t.row == rows_before c t.table + inserts c xs t.table + 1) ≡ true = grind (arith, nat_tests, h) in
    both_next (place.Row t) (is_insert c t) _ e

-- tokens up to the n-th row of a table: so many inserts of it, none of those behind it, and each is the next
record GoOn (c : Chain) (xs : List Token) (table n : ℕ) : Type 0 where
  count : inserts c xs table ≡ n - rows_before c table
  behind : (u : ℕ) → table < u → inserts c xs u ≡ 0
  fault : insert_fault c xs ≡ None

is_new : (c : Chain) (table n : ℕ) → rows_before c table ≤ n → is_insert c (nth_row table n) ≡ true
unfolding is_insert
is_new c table n h = grind (arith, nat_tests, h)

is_old : (c : Chain) (table n : ℕ) → n < rows_before c table → is_insert c (nth_row table n) ≡ false
unfolding is_insert
is_old c table n h = grind (arith, nat_tests, h)

apart : (table u : ℕ) → table < u → u ≢ table
apart table u low e = omega (arith, low, e)

with_new : (c : Chain) (xs : List Token) (table n : ℕ) → rows_before c table ≤ n → GoOn c xs table n → GoOn c (xs ++ nth_row table n ∷ []) table (suc n)
with_new c xs table n past g =
    let here : inserts c (xs ++ nth_row table n ∷ []) table ≡ inserts c xs table + 1 = inserts_here c xs (nth_row table n) (is_new c table n past) in
    let count = g.count in
    record {
      count = omega (arith, here, count, past);
      behind = λ u low. inserts_elsewhere c xs (nth_row table n) u (apart table u low) ∙ g.behind u low;
      fault = fault_push c xs (nth_row table n) g.fault (new_of c xs (nth_row table n) (omega (arith, count, past)));
    }

with_old : (c : Chain) (xs : List Token) (table n : ℕ) → n < rows_before c table → GoOn c xs table n → GoOn c (xs ++ nth_row table n ∷ []) table (suc n)
with_old c xs table n low g =
    let here = inserts_kept c xs (nth_row table n) table (is_old c table n low) in
    let count = g.count in
    record {
      count = omega (arith, here, count, low);
      behind = λ u less. inserts_kept c xs (nth_row table n) u (is_old c table n low) ∙ g.behind u less;
      fault = fault_push c xs (nth_row table n) g.fault (old_of c xs (nth_row table n) (is_old c table n low));
    }

without : (c : Chain) (xs : List Token) (table n : ℕ) → n < rows_before c table → GoOn c xs table n → GoOn c xs table (suc n)
without c xs table n low g = let count = g.count in record { count = omega (arith, count, low); behind = g.behind; fault = g.fault }

-- the rows of a table, of which each new one passes
pub record PassNew (c : Chain) (p : Token → Bool) (table n : ℕ) : Type 0 where
  pub each : (k : ℕ) → rows_before c table ≤ k → k < n → p (nth_row table k) ≡ true

go_on : (c : Chain) (p : Token → Bool) (table n : ℕ) (xs : List Token) → ((u : ℕ) → table ≤ u → inserts c xs u ≡ 0) → insert_fault c xs ≡ None → PassNew c p table n → GoOn c (xs ++ passing p table n) table n
go_on c p table zero xs none fault new =
    none_below (λ ts. GoOn c (xs ++ ts) table 0) p table (rw (append-nil xs) (record { count = none table (omega arith) ∙ omega arith; behind = λ u low. none u (omega (arith, low)); fault = fault }))
go_on c p table (suc n) xs none fault new =
    let before = go_on c p table n xs none fault (record { each = λ k past low. new.each k past (omega (arith, low)) }) in
    one_more (λ ts. GoOn c (xs ++ ts) table (suc n)) p table n
    (λ h. rw (← append_assoc xs (passing p table n) (nth_row table n ∷ [])) (elim (cases_lt n (rows_before c table)) [
      | inl low ↦ with_old c (xs ++ passing p table n) table n low before
      | inr past ↦ with_new c (xs ++ passing p table n) table n past before
    ]))
    (λ h. elim (cases_lt n (rows_before c table)) [
      | inl low ↦ without c (xs ++ passing p table n) table n low before
      | inr past ↦ let f : true ≡ false = sym (new.each n past (omega arith)) ∙ h in absurd cc
    ])

-- the tokens of tables, one behind the other
record GoPast (c : Chain) (xs : List Token) (a : ℕ) : Type 0 where
  behind : (u : ℕ) → a ≤ u → inserts c xs u ≡ 0
  fault : insert_fault c xs ≡ None

range_fault : (c : Chain) (p : Token → Bool) (many : ℕ → ℕ) (a n : ℕ) (xs : List Token) → ((table : ℕ) → PassNew c p table (many table)) → GoPast c xs a → insert_fault c (xs ++ flat_map (λ table. passing p table (many table)) (range_with_len a n)) ≡ None
range_fault c p many a zero xs new g = rw (append-nil xs) g.fault
range_fault c p many a (suc n) xs new g =
    let own = go_on c p a (many a) xs g.behind g.fault (new a) in
    rw (← append_assoc xs (passing p a (many a)) (flat_map (λ table. passing p table (many table)) (range_with_len (a + 1) n)))
    (range_fault c p many (a + 1) n (xs ++ passing p a (many a)) new (record { behind = λ u low. own.behind u (omega (arith, low)); fault = own.fault }))

none_first : (c : Chain) → GoPast c [] 0
unfolding inserts insert_fault
none_first c = record { behind = λ u low. refl; fault = first_none _ }

pass_new : (c : Chain) (l : EditList) (table : ℕ) → PassNew c (is_edited c.plain l.edits) table (count_after c l.edits table)
pass_new c l table = record { each = λ k past low. new_about c l (nth_row table k) (omega (arith, past)) (omega (arith, low)) }

-- each new row is the next of its table
pub written_in_order : (c : Chain) (l : EditList) → insert_fault c (map_written c l.edits) ≡ None
unfolding map_written tokens_written below
written_in_order c l = range_fault c (is_edited c.plain l.edits) (count_after c l.edits) 0 64 [] (pass_new c l) (none_first c)

-- the inserts of a table are those among its own tokens
inserts_cons : (c : Chain) (t : Token) (ts : List Token) (table : ℕ) → inserts c (t ∷ ts) table ≡ cond (t.table == table && is_insert c t) 1 0 + inserts c ts table
unfolding inserts
inserts_cons c t ts table = sum_by-cons (λ (u : Token). cond (u.table == table && is_insert c u) 1 0) t ts

none_more : (n : ℕ) → 0 + n ≡ n
none_more n = omega arith

own_inserts : (c : Chain) (ts : List Token) (table : ℕ) → inserts c ts table ≡ inserts c (of_table table ts) table
own_inserts c [] table = refl
own_inserts c (t ∷ ts) table = elim (cases_Bool (t.table == table)) [
  | inl own ↦ rw own (inserts_cons c t ts table ∙ ap (λ n. cond (t.table == table && is_insert c t) 1 0 + n) (own_inserts c ts table) ∙ sym (inserts_cons c t (of_table table ts) table))
  | inr other ↦ rw other (inserts_cons c t ts table ∙ (rw other (none_more (inserts c ts table) ∙ own_inserts c ts table)))
]

added : (c : Chain) (l : EditList) (table : ℕ) → count_after c l.edits table - rows_before c table ≡ rows_added l.edits table
unfolding count_after
added c l table = omega arith

table_inserts : (c : Chain) (l : EditList) (table : ℕ) → inserts c (tokens_written c l.edits table) table ≡ rows_added l.edits table
unfolding tokens_written
table_inserts c l table =
    let w = go_on c (is_edited c.plain l.edits) table (count_after c l.edits table) [] (λ u low. inserts_none c u) (none_first c).fault (pass_new c l table) in
    w.count ∙ added c l table

-- as many inserts as rows are added
pub map_inserts : (c : Chain) (l : EditList) (table : ℕ) → BreakNothing c l → inserts c (map_written c l.edits) table ≡ rows_added l.edits table
map_inserts c l table none = own_inserts c (map_written c l.edits) table ∙ ap (λ ts. inserts c ts table) (map_of_table c l table none) ∙ table_inserts c l table

pub listed_inserts : (c : Chain) (l : EditList) (s : Source) → MayFollow c l → SaysDelta c l s → (table : ℕ) → inserts c (listed s) table ≡ rows_added l.edits table
listed_inserts c l s may says table = ap (λ ts. inserts c ts table) (listed_is c l s may says) ∙ map_inserts c l table (nothing_breaks c l may)

-- and so many rows after the delta
pub map_rows : (c : Chain) (l : EditList) (table : ℕ) → BreakNothing c l → rows_with c (map_written c l.edits) table ≡ count_after c l.edits table
unfolding rows_with count_after
map_rows c l table none = ap (λ n. rows_before c table + n) (map_inserts c l table none)

pub listed_rows : (c : Chain) (l : EditList) (s : Source) → MayFollow c l → SaysDelta c l s → (table : ℕ) → rows_with c (listed s) table ≡ count_after c l.edits table
listed_rows c l s may says table = ap (λ ts. rows_with c ts table) (listed_is c l s may says) ∙ map_rows c l table (nothing_breaks c l may)

-- a row that edits are about is an insert where it is past the rows before
pub insert_is : (c : Chain) (l : EditList) (u : Token) → BreakNothing c l → is_edited c.plain l.edits u ≡ true → is_insert c u ≡ nat_lt (rows_before c u.table) u.row
unfolding is_insert
insert_is c l u none h =
    let low = (stands_after c l u none h).low in
    let some : (u.row == 0) ≡ false = grind (arith, nat_tests, low) in
    rw some refl
