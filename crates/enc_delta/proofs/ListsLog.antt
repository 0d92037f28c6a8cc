-- The Add entries of a log, as far as it was gone over.
use Rattle.std.proofs.Common.{◌≡◌, ℕ, zero, suc, ◌+◌, ◌<◌, ◌≤◌, ◌≢◌, Bool, true, false, List, [], ◌∷◌, length, Option, Some, None, refl, sym, ◌∙◌, inl, inr, arith, set, get_or, take}
use Rattle.std.specs.Prelude.{nat_lt, nat_le, ◌==◌, ◌&&◌, ◌||◌, not, slice_index, drop, find}
use Rattle.std.proofs.lemmas.Bool.{cases_eq, and_from}
use Rattle.std.proofs.lemmas.Bool.Decides.{nat_tests}
use Rattle.std.proofs.lemmas.List.{get_or-set_same, get_or-set_other, length-set, length-take-le}
use Rattle.std.proofs.lemmas.List.Sums.{count_by_more_yes, count_by_more_no, count_by-le-length}
use Rattle.enc_base.specs.declared.token.Token.{Token}
use Rattle.enc_base.specs.declared.refusal.Place.{Place}
use Rattle.enc_base.specs.declared.refusal.Place.TheVariants as place
use Rattle.enc_base.specs.Order.{first_below}
use Rattle.enc_base.proofs.First.{first_none, first_found, first_more}
use Rattle.enc_plain.specs.Chain.{Chain, rows_before}
use Rattle.enc_delta.specs.declared.log_entry.LogEntry.{LogEntry}
use Rattle.enc_delta.specs.Rules.{broken, counts, adds, is_add, has_parent, follows, rows_with, parent_table, child_table, log_fault_of, log_fault_at, log_fault}
use Rattle.enc_delta.specs.Lists.{parents, parent_in, next_is, is_pair}
use Rattle.enc_delta.proofs.ListsInserts.{get_there, left_no, right_no}
use Rattle.enc_delta.proofs.ListsChanged.{no_entry}

-- the parent's rows by code are the rows of its table
rows_by_code : (c : Chain) (tokens : List Token) (code : ℕ) → 1 ≤ code → code ≤ 5 → slice_index (parents c tokens) code ≡ rows_with c tokens (parent_table code)
rows_by_code c tokens zero l h = absurd (omega arith)
rows_by_code c tokens (suc zero) l h = refl
rows_by_code c tokens (suc (suc zero)) l h = refl
rows_by_code c tokens (suc (suc (suc zero))) l h = refl
rows_by_code c tokens (suc (suc (suc (suc zero)))) l h = refl
rows_by_code c tokens (suc (suc (suc (suc (suc zero))))) l h = refl
rows_by_code c tokens (suc (suc (suc (suc (suc (suc n)))))) l h = absurd (omega arith)

parent_by : (rows : ℕ → ℕ) (table parent row n : ℕ) → n ≡ rows parent → (table == parent && nat_le 1 row && nat_le row n) ≡ (table == parent && nat_le 1 row && nat_le row (rows table))
parent_by rows table parent row n h =
    elim (cases_eq table parent) [
      | inl e ↦ rw (h, e) refl
      | inr e ↦ let f : (table == parent) ≡ false = grind (arith, nat_tests) in rw f refl
    ]

parent_is : (c : Chain) (tokens : List Token) (e : LogEntry) → 1 ≤ e.operation → e.operation ≤ 5 → parent_in (parents c tokens) e ≡ has_parent c tokens e
unfolding has_parent
parent_is c tokens e l h = parent_by (rows_with c tokens) e.token.table (parent_table e.operation) e.token.row _ (rows_by_code c tokens e.operation l h)

follows_is : (c : Chain) (before : List LogEntry) (code n : ℕ) (next : Option LogEntry) → n ≡ adds before code → next_is (child_table code) (rows_before c (child_table code) + n + 1) next ≡ follows c before code next
unfolding follows
follows_is c before code n None h = refl
follows_is c before code n (Some e) h = rw h refl

pair_is : (c : Chain) (tokens : List Token) (before behind : List LogEntry) (n : ℕ) (e : LogEntry) → 1 ≤ e.operation → e.operation ≤ 5 → n ≡ adds before e.operation → is_pair c (parents c tokens) n behind e ≡ (has_parent c tokens e && follows c before e.operation (find counts behind))
pair_is c tokens before behind n e l h is = rw (parent_is c tokens e l h, follows_is c before e.operation n (find counts behind) is) refl

-- what the rule says of the entry at a place
log_fault_is : (c : Chain) (tokens : List Token) (log : List LogEntry) (k : ℕ) → k < length log → log_fault_at c tokens log k ≡ log_fault_of c tokens (take k log) (drop (k + 1) log) k (get_or log k no_entry)
unfolding log_fault_at
log_fault_is c tokens log k h = rw (get_there log k no_entry h) refl

broken_skip : (p : Place) (a b : Bool) → a ≡ false → broken (a && b) p ≡ None
broken_skip p true b h = absurd cc
broken_skip p false b h = refl

broken_code : (p : Place) (a b d : Bool) → a ≡ true → b ≡ true → broken (a && (b || d)) p ≡ Some p
broken_code p true true d h g = refl
broken_code p true false d h g = absurd cc
broken_code p false b d h g = absurd cc

broken_change : (p : Place) (a b d e : Bool) → b ≡ false → d ≡ false → broken (a && (b || d && e)) p ≡ None
broken_change p true true d e h g = absurd cc
broken_change p true false true e h g = absurd cc
broken_change p true false false e h g = refl
broken_change p false b d e h g = refl

broken_good : (p : Place) (a b d e : Bool) → b ≡ false → e ≡ true → broken (a && (b || d && not e)) p ≡ None
broken_good p true true d e h g = absurd cc
broken_good p true false true true h g = refl
broken_good p true false true false h g = absurd cc
broken_good p true false false e h g = refl
broken_good p false b d e h g = refl

broken_bad : (p : Place) (a b d e : Bool) → a ≡ true → d ≡ true → e ≡ false → broken (a && (b || d && not e)) p ≡ Some p
broken_bad p true true d e h g i = refl
broken_bad p true false true true h g i = absurd cc
broken_bad p true false true false h g i = refl
broken_bad p true false false e h g i = absurd cc
broken_bad p false b d e h g i = absurd cc

adds_yes : (log : List LogEntry) (k : ℕ) → k < length log → counts (get_or log k no_entry) ≡ true → adds (take (k + 1) log) (get_or log k no_entry).operation ≡ adds (take k log) (get_or log k no_entry).operation + 1
adds_yes log k h is =
    let code = (get_or log k no_entry).operation in
    count_by_more_yes (λ (e : LogEntry). counts e && e.operation == code) log k no_entry h (and_from (counts (get_or log k no_entry)) (code == code) is (grind (arith, nat_tests)))

adds_skip : (log : List LogEntry) (k code : ℕ) → k < length log → counts (get_or log k no_entry) ≡ false → adds (take (k + 1) log) code ≡ adds (take k log) code
adds_skip log k code h is = count_by_more_no (λ (e : LogEntry). counts e && e.operation == code) log k no_entry h (left_no (counts (get_or log k no_entry)) ((get_or log k no_entry).operation == code) is)

adds_other : (log : List LogEntry) (k code : ℕ) → k < length log → (get_or log k no_entry).operation ≢ code → adds (take (k + 1) log) code ≡ adds (take k log) code
adds_other log k code h other =
    let no : ((get_or log k no_entry).operation == code) ≡ false = grind (arith, nat_tests) in
    count_by_more_no (λ (e : LogEntry). counts e && e.operation == code) log k no_entry h (right_no (counts (get_or log k no_entry)) ((get_or log k no_entry).operation == code) no)

adds_few : (log : List LogEntry) (k code : ℕ) → k ≤ length log → adds (take k log) code ≤ k
adds_few log k code h =
    let a = count_by-le-length (λ (e : LogEntry). counts e && e.operation == code) (take k log) in
    let b = length-take-le k log h in
    omega arith

-- the entries below a place were gone over: the Add entries are counted by their codes, and none is bad
pub record Logged (c : Chain) (tokens : List Token) (log : List LogEntry) (pairs : List ℕ) (k : ℕ) : Type 0 where
  pub size : length pairs ≡ 6
  pub within : k ≤ length log
  pub counted : (code : ℕ) → 1 ≤ code → code ≤ 5 → slice_index pairs code ≡ adds (take k log) code
  pub none : first_below (log_fault_at c tokens log) k ≡ None

zero_of : (code : ℕ) → slice_index (0 ∷ 0 ∷ 0 ∷ 0 ∷ 0 ∷ 0 ∷ []) code ≡ 0
zero_of zero = refl
zero_of (suc zero) = refl
zero_of (suc (suc zero)) = refl
zero_of (suc (suc (suc zero))) = refl
zero_of (suc (suc (suc (suc zero)))) = refl
zero_of (suc (suc (suc (suc (suc zero))))) = refl
zero_of (suc (suc (suc (suc (suc (suc n)))))) = refl

pub logged_none : (c : Chain) (tokens : List Token) (log : List LogEntry) → Logged c tokens log (0 ∷ 0 ∷ 0 ∷ 0 ∷ 0 ∷ 0 ∷ []) 0
logged_none c tokens log = record { size = refl; within = omega arith; counted = λ code l h. zero_of code; none = first_none _ }

pub pairs_few : (c : Chain) (tokens : List Token) (log : List LogEntry) (pairs : List ℕ) (k code : ℕ) → Logged c tokens log pairs k → 1 ≤ code → code ≤ 5 → slice_index pairs code ≤ k
pairs_few c tokens log pairs k code s l h = let a = adds_few log k code s.within in let b = s.counted code l h in omega arith

none_more : (c : Chain) (tokens : List Token) (log : List LogEntry) (pairs : List ℕ) (k : ℕ) → Logged c tokens log pairs k → k < length log → log_fault_of c tokens (take k log) (drop (k + 1) log) k (get_or log k no_entry) ≡ None → first_below (log_fault_at c tokens log) (k + 1) ≡ None
none_more c tokens log pairs k s h is = first_more (log_fault_at c tokens log) k s.none ∙ log_fault_is c tokens log k h ∙ is

pub logged_skip : (c : Chain) (tokens : List Token) (log : List LogEntry) (pairs : List ℕ) (k : ℕ) → Logged c tokens log pairs k → k < length log → counts (get_or log k no_entry) ≡ false → Logged c tokens log pairs (k + 1)
unfolding log_fault_of
logged_skip c tokens log pairs k s h is =
    record {
      size = s.size;
      within = omega arith;
      counted = λ code l g. s.counted code l g ∙ sym (adds_skip log k code h is);
      none = none_more c tokens log pairs k s h (broken_skip (place.Log (k + 1)) (counts (get_or log k no_entry)) _ is);
    }

pub logged_change : (c : Chain) (tokens : List Token) (log : List LogEntry) (pairs : List ℕ) (k : ℕ) → Logged c tokens log pairs k → k < length log → (get_or log k no_entry).operation ≡ 0 → Logged c tokens log pairs (k + 1)
unfolding log_fault_of
logged_change c tokens log pairs k s h is =
    let code = (get_or log k no_entry).operation in
    let few : nat_lt 5 code ≡ false = grind (arith, nat_tests) in
    let no : is_add code ≡ false = left_no (nat_le 1 code) (nat_le code 5) (grind (arith, nat_tests)) in
    record {
      size = s.size;
      within = omega arith;
      counted = λ code l g. s.counted code l g ∙ sym (adds_other log k code h (λ e. absurd (omega arith)));
      none = none_more c tokens log pairs k s h (broken_change (place.Log (k + 1)) (counts (get_or log k no_entry)) (nat_lt 5 code) (is_add code) _ few no);
    }

pub logged_pair : (c : Chain) (tokens : List Token) (log : List LogEntry) (pairs : List ℕ) (k n : ℕ) → Logged c tokens log pairs k → k < length log → counts (get_or log k no_entry) ≡ true → 1 ≤ (get_or log k no_entry).operation → (get_or log k no_entry).operation ≤ 5 → n ≡ slice_index pairs (get_or log k no_entry).operation → is_pair c (parents c tokens) n (drop (k + 1) log) (get_or log k no_entry) ≡ true → Logged c tokens log (set pairs (get_or log k no_entry).operation (n + 1)) (k + 1)
unfolding log_fault_of
logged_pair c tokens log pairs k n s h is low high at pair =
    let e = get_or log k no_entry in
    let few : nat_lt 5 e.operation ≡ false = grind (arith, nat_tests) in
    let same : n ≡ adds (take k log) e.operation = at ∙ s.counted e.operation low high in
    record {
      size = length-set pairs e.operation (n + 1) ∙ s.size;
      within = omega arith;
      counted = λ code l g. elim (cases_eq code e.operation) [
        | inl here ↦ rw (here, adds_yes log k h is, ← same) (get_or-set_same pairs e.operation (n + 1) 0 (omega (arith, s.size)))
        | inr other ↦ get_or-set_other pairs e.operation code (n + 1) 0 other ∙ s.counted code l g ∙ sym (adds_other log k code h (λ f. other (sym f)))
      ];
      none = none_more c tokens log pairs k s h (broken_good (place.Log (k + 1)) (counts e) (nat_lt 5 e.operation) (is_add e.operation) (has_parent c tokens e && follows c (take k log) e.operation (find counts (drop (k + 1) log))) few (sym (pair_is c tokens (take k log) (drop (k + 1) log) n e low high same) ∙ pair));
    }

found_at : (c : Chain) (tokens : List Token) (log : List LogEntry) (pairs : List ℕ) (k : ℕ) → Logged c tokens log pairs k → k < length log → log_fault_of c tokens (take k log) (drop (k + 1) log) k (get_or log k no_entry) ≡ Some (place.Log (k + 1)) → Some (place.Log (k + 1)) ≡ log_fault c tokens log
unfolding log_fault
found_at c tokens log pairs k s h is = first_found (log_fault_at c tokens log) (length log) k (Some (place.Log (k + 1))) h s.none (sym (log_fault_is c tokens log k h ∙ is)) refl

pub bad_code : (c : Chain) (tokens : List Token) (log : List LogEntry) (pairs : List ℕ) (k : ℕ) → Logged c tokens log pairs k → k < length log → counts (get_or log k no_entry) ≡ true → 5 < (get_or log k no_entry).operation → Some (place.Log (k + 1)) ≡ log_fault c tokens log
unfolding log_fault_of
bad_code c tokens log pairs k s h is high =
    let code = (get_or log k no_entry).operation in
    let past : nat_lt 5 code ≡ true = grind (arith, nat_tests) in
    found_at c tokens log pairs k s h (broken_code (place.Log (k + 1)) (counts (get_or log k no_entry)) (nat_lt 5 code) _ is past)

pub bad_pair : (c : Chain) (tokens : List Token) (log : List LogEntry) (pairs : List ℕ) (k n : ℕ) → Logged c tokens log pairs k → k < length log → counts (get_or log k no_entry) ≡ true → 1 ≤ (get_or log k no_entry).operation → (get_or log k no_entry).operation ≤ 5 → n ≡ slice_index pairs (get_or log k no_entry).operation → is_pair c (parents c tokens) n (drop (k + 1) log) (get_or log k no_entry) ≡ false → Some (place.Log (k + 1)) ≡ log_fault c tokens log
unfolding log_fault_of
bad_pair c tokens log pairs k n s h is low high at pair =
    let e = get_or log k no_entry in
    let same : n ≡ adds (take k log) e.operation = at ∙ s.counted e.operation low high in
    let yes : is_add e.operation ≡ true = and_from (nat_le 1 e.operation) (nat_le e.operation 5) (grind (arith, nat_tests)) (grind (arith, nat_tests)) in
    found_at c tokens log pairs k s h (broken_bad (place.Log (k + 1)) (counts e) (nat_lt 5 e.operation) (is_add e.operation) (has_parent c tokens e && follows c (take k log) e.operation (find counts (drop (k + 1) log))) is yes (sym (pair_is c tokens (take k log) (drop (k + 1) log) n e low high same) ∙ pair))

pub logged_all : (c : Chain) (tokens : List Token) (log : List LogEntry) (pairs : List ℕ) (k : ℕ) → Logged c tokens log pairs k → k ≡ length log → None ≡ log_fault c tokens log
unfolding log_fault
logged_all c tokens log pairs k s e = sym (rw e at s.none)
