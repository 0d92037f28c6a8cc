-- Counting inserts while the tokens are gone over.
use Rattle.std.proofs.Common.{◌≡◌, ℕ, zero, suc, ◌+◌, ◌<◌, ◌≢◌, Bool, true, false, List, [], ◌∷◌, length, Some, None, refl, sym, ◌∙◌, inl, inr, arith, set, get_or, take}
use Rattle.std.specs.Prelude.{◌==◌, ◌&&◌, not, slice_index, slice_get, replicate}
use Rattle.std.proofs.lemmas.Bool.{cases_eq, and_from}
use Rattle.std.proofs.lemmas.Bool.Decides.{nat_tests}
use Rattle.std.proofs.lemmas.List.{get_or-set_same, get_or-set_other, length-set}
use Rattle.std.proofs.lemmas.List.Sums.{count_by_more_yes, count_by_more_no}
use Rattle.enc_base.specs.declared.token.Token.{Token}
use Rattle.enc_base.specs.declared.refusal.Place.{Place}
use Rattle.enc_base.specs.declared.refusal.Place.TheVariants as place
use Rattle.enc_base.specs.Order.{first_below}
use Rattle.enc_base.proofs.First.{first_none, first_found, first_more}
use Rattle.enc_plain.specs.Chain.{Chain, rows_before}
use Rattle.enc_delta.specs.Rules.{broken, is_insert, inserts, insert_fault_of, insert_fault_at, insert_fault}

pub zero_at : (n t : ℕ) → get_or {A = ℕ} (replicate n 0) t 0 ≡ 0
zero_at zero t = refl
zero_at (suc n) zero = refl
zero_at (suc n) (suc t) = zero_at n t

-- what a list has at a place within it
pub get_there : {A : Type 0} (xs : List A) (k : ℕ) (d : A) → k < length xs → slice_get xs k ≡ Some (get_or xs k d)
get_there [] k d h = absurd (omega arith)
get_there (x ∷ xs) zero d h = refl
get_there (x ∷ xs) (suc k) d h = get_there xs k d (omega arith)

abbrev pub no_token : Token
no_token = record { table = 0; row = 0 }

-- how the inserts into a table count on
pub inserts_none : (c : Chain) (table : ℕ) → inserts c [] table ≡ 0
unfolding inserts
inserts_none c table = refl

pub left_no : (a b : Bool) → a ≡ false → (a && b) ≡ false
left_no true b h = absurd cc
left_no false b h = refl

pub right_no : (a b : Bool) → b ≡ false → (a && b) ≡ false
right_no true b h = h
right_no false b h = refl

same_table : (a b : ℕ) → a ≡ b → (a == b) ≡ true
same_table a b h = grind (arith, nat_tests)

other_table : (a b : ℕ) → a ≢ b → (a == b) ≡ false
other_table a b h = grind (arith, nat_tests)

pub inserts_yes : (c : Chain) (tokens : List Token) (k : ℕ) → k < length tokens → is_insert c (get_or tokens k no_token) ≡ true → inserts c (take (k + 1) tokens) (get_or tokens k no_token).table ≡ inserts c (take k tokens) (get_or tokens k no_token).table + 1
unfolding inserts
inserts_yes c tokens k h is =
    let t = get_or tokens k no_token in
    count_by_more_yes (λ (u : Token). u.table == t.table && is_insert c u) tokens k no_token h (and_from (t.table == t.table) (is_insert c t) (same_table t.table t.table refl) is)

pub inserts_other : (c : Chain) (tokens : List Token) (k table : ℕ) → k < length tokens → (get_or tokens k no_token).table ≢ table → inserts c (take (k + 1) tokens) table ≡ inserts c (take k tokens) table
unfolding inserts
inserts_other c tokens k table h other =
    let t = get_or tokens k no_token in
    count_by_more_no (λ (u : Token). u.table == table && is_insert c u) tokens k no_token h (left_no (t.table == table) (is_insert c t) (other_table t.table table other))

pub inserts_no : (c : Chain) (tokens : List Token) (k table : ℕ) → k < length tokens → is_insert c (get_or tokens k no_token) ≡ false → inserts c (take (k + 1) tokens) table ≡ inserts c (take k tokens) table
unfolding inserts
inserts_no c tokens k table h is =
    let t = get_or tokens k no_token in
    count_by_more_no (λ (u : Token). u.table == table && is_insert c u) tokens k no_token h (right_no (t.table == table) (is_insert c t) is)

-- what the rule says of the token at a place
pub fault_is : (c : Chain) (tokens : List Token) (k : ℕ) → k < length tokens → insert_fault_at c tokens k ≡ insert_fault_of c (take k tokens) (get_or tokens k no_token)
unfolding insert_fault_at
fault_is c tokens k h = rw (get_there tokens k no_token h) refl

broken_no : (p : Place) (a b : Bool) → a ≡ false → broken (a && not b) p ≡ None
broken_no p true b h = absurd cc
broken_no p false b h = refl

broken_next : (p : Place) (a b : Bool) → b ≡ true → broken (a && not b) p ≡ None
broken_next p a false h = absurd cc
broken_next p true true h = refl
broken_next p false true h = refl

broken_yes : (p : Place) (a b : Bool) → a ≡ true → b ≡ false → broken (a && not b) p ≡ Some p
broken_yes p a true h k = absurd cc
broken_yes p true false h k = refl
broken_yes p false false h k = absurd cc

-- the tokens below a place were gone over: the inserts are counted, and none is bad
pub record Seen (c : Chain) (tokens : List Token) (seen : List ℕ) (k : ℕ) : Type 0 where
  pub size : length seen ≡ 256
  pub counts : (t : ℕ) → t < 256 → slice_index seen t ≡ inserts c (take k tokens) t
  pub none : first_below (insert_fault_at c tokens) k ≡ None

pub seen_none : (c : Chain) (tokens : List Token) (seen : List ℕ) → length seen ≡ 256 → ((t : ℕ) → slice_index seen t ≡ 0) → Seen c tokens seen 0
seen_none c tokens seen size zeros = record { size = size; counts = λ t h. zeros t ∙ sym (inserts_none c t); none = first_none _ }

pub seen_no : (c : Chain) (tokens : List Token) (seen : List ℕ) (k : ℕ) → Seen c tokens seen k → k < length tokens → is_insert c (get_or tokens k no_token) ≡ false → Seen c tokens seen (k + 1)
unfolding insert_fault_of
seen_no c tokens seen k s h is =
    let t = get_or tokens k no_token in
    record {
      size = s.size;
      counts = λ u less. s.counts u less ∙ sym (inserts_no c tokens k u h is);
      none = first_more (insert_fault_at c tokens) k s.none ∙ fault_is c tokens k h ∙ broken_no (place.Row t) (is_insert c t) (t.row == rows_before c t.table + inserts c (take k tokens) t.table + 1) is;
    }

pub seen_yes : (c : Chain) (tokens : List Token) (seen : List ℕ) (k n : ℕ) → Seen c tokens seen k → k < length tokens → (get_or tokens k no_token).table < 256 → is_insert c (get_or tokens k no_token) ≡ true → n ≡ slice_index seen (get_or tokens k no_token).table → ((get_or tokens k no_token).row == rows_before c (get_or tokens k no_token).table + n + 1) ≡ true → Seen c tokens (set seen (get_or tokens k no_token).table (n + 1)) (k + 1)
unfolding insert_fault_of
seen_yes c tokens seen k n s h few is at next =
    let t = get_or tokens k no_token in
    let e : n ≡ inserts c (take k tokens) t.table = at ∙ s.counts t.table few in
    record {
      size = length-set seen t.table (n + 1) ∙ s.size;
      counts = λ u less. elim (cases_eq u t.table) [
        | inl same ↦ rw (same, inserts_yes c tokens k h is, ← e) (get_or-set_same seen t.table (n + 1) 0 (omega (arith, s.size)))
        | inr other ↦ get_or-set_other seen t.table u (n + 1) 0 other ∙ s.counts u less ∙ sym (inserts_other c tokens k u h (λ e. other (sym e)))
      ];
      none = first_more (insert_fault_at c tokens) k s.none ∙ fault_is c tokens k h ∙ broken_next (place.Row t) (is_insert c t) (t.row == rows_before c t.table + inserts c (take k tokens) t.table + 1) (rw e at next);
    }

pub seen_bad : (c : Chain) (tokens : List Token) (seen : List ℕ) (k n : ℕ) → Seen c tokens seen k → k < length tokens → (get_or tokens k no_token).table < 256 → is_insert c (get_or tokens k no_token) ≡ true → n ≡ slice_index seen (get_or tokens k no_token).table → ((get_or tokens k no_token).row == rows_before c (get_or tokens k no_token).table + n + 1) ≡ false → Some (place.Row (get_or tokens k no_token)) ≡ insert_fault c tokens
unfolding insert_fault_of insert_fault
seen_bad c tokens seen k n s h few is at next =
    let t = get_or tokens k no_token in
    let e : n ≡ inserts c (take k tokens) t.table = at ∙ s.counts t.table few in
    let here : insert_fault_at c tokens k ≡ Some (place.Row t) = fault_is c tokens k h ∙ broken_yes (place.Row t) (is_insert c t) (t.row == rows_before c t.table + inserts c (take k tokens) t.table + 1) is (rw e at next) in
    first_found (insert_fault_at c tokens) (length tokens) k (Some (place.Row t)) h s.none (sym here) refl

pub seen_all : (c : Chain) (tokens : List Token) (seen : List ℕ) (k : ℕ) → Seen c tokens seen k → k ≡ length tokens → None ≡ insert_fault c tokens
unfolding insert_fault
seen_all c tokens seen k s e = sym (rw e at s.none)

-- one table's inserts alone
pub into_yes : (c : Chain) (tokens : List Token) (k table : ℕ) → k < length tokens → ((get_or tokens k no_token).table == table && is_insert c (get_or tokens k no_token)) ≡ true → inserts c (take (k + 1) tokens) table ≡ inserts c (take k tokens) table + 1
unfolding inserts
into_yes c tokens k table h is = count_by_more_yes (λ (u : Token). u.table == table && is_insert c u) tokens k no_token h is

pub into_no : (c : Chain) (tokens : List Token) (k table : ℕ) → k < length tokens → ((get_or tokens k no_token).table == table && is_insert c (get_or tokens k no_token)) ≡ false → inserts c (take (k + 1) tokens) table ≡ inserts c (take k tokens) table
unfolding inserts
into_no c tokens k table h is = count_by_more_no (λ (u : Token). u.table == table && is_insert c u) tokens k no_token h is
