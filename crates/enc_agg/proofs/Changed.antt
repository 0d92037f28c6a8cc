-- The tokens that a log changes are rows after the delta.
use Rattle.std.proofs.Common.{◌≡◌, ℕ, ◌+◌, ◌<◌, ◌≤◌, Bool, true, false, List, [], ◌∷◌, ◌++◌, Option, Some, None, refl, ◌∙◌, inl, inr, map, arith, append_assoc}
use Rattle.std.specs.Prelude.{◌==◌, ◌&&◌, not, cond, filter, find}
use Rattle.std.specs.List.{list_all, list_any}
use Rattle.std.proofs.Math.Nat.{mod-lt}
use Rattle.std.proofs.lemmas.Bool.{and_parts, and_from, or_cases, eqb-true}
use Rattle.std.proofs.lemmas.Bool.Decides.{nat_tests}
use Rattle.std.proofs.lemmas.List.Sums.{sum_by-append}
use Rattle.enc_base.specs.declared.token.Token.{Token}
use Rattle.enc_base.specs.Token.{number_of}
use Rattle.enc_rows.specs.Source.{Source}
use Rattle.enc_rows.specs.Sums.{below}
use Rattle.enc_plain.specs.Chain.{Chain, rows_before}
use Rattle.enc_delta.specs.declared.log_entry.LogEntry.{LogEntry}
use Rattle.enc_delta.specs.Delta.{listed, log_in, entry_at}
use Rattle.enc_delta.specs.Rules.{is_insert, inserts, rows_with, counts, changed, stands_in, in_one, set_fault}
use Rattle.enc_delta.specs.Judged.{unmatched_token}
use Rattle.enc_agg.specs.Follows.{Lands}
use Rattle.enc_agg.proofs.Counting.{next_row, old_row, inserts_here}
use Rattle.enc_agg.proofs.Fitting.{Good, first_good, first_row, rest_good, good_tokens}
use Rattle.enc_agg.proofs.Rising.{no_least, no_place}
use Rattle.enc_delta.proofs.Unbroken.{landed}

-- each token's row is one of so many, and has a number of three bytes
abbrev pub Within : (ℕ → ℕ) → List Token → Type 0
Within count [] = Unit {0}
Within count (t ∷ ts) = (t.row ≤ count t.table) × (t.row < 0x1000000) × Within count ts

inserts_append : (c : Chain) (xs ys : List Token) (t : ℕ) → inserts c (xs ++ ys) t ≡ inserts c xs t + inserts c ys t
unfolding inserts
inserts_append c xs ys t = sum_by-append (λ (u : Token). cond (u.table == t && is_insert c u) 1 0) xs ys

row_within : (c : Chain) (before ts : List Token) (t : Token) (b : Bool) → Good c before (t ∷ ts) → is_insert c t ≡ b → t.row ≤ rows_before c t.table + inserts c ((before ++ t ∷ []) ++ ts) t.table
row_within c before ts t true good is =
    let next = next_row c before t (first_good c before ts t good) is in
    let here = inserts_here c before t is in
    let split = inserts_append c (before ++ t ∷ []) ts t.table in
    omega arith
row_within c before ts t false good is =
    let old = (old_row c t is).1 in
    omega arith

one_within : (c : Chain) (tokens before ts : List Token) (t : Token) → (before ++ t ∷ []) ++ ts ≡ tokens → Good c before (t ∷ ts) → t.row ≤ rows_with c tokens t.table
unfolding rows_with
one_within c tokens before ts t e good = rw (← e) (row_within c before ts t (is_insert c t) good refl)

-- the tokens of a delta are rows after it
pub rows_within : (c : Chain) (tokens ts before : List Token) → before ++ ts ≡ tokens → Good c before ts → Within (rows_with c tokens) ts
rows_within c tokens [] before e good = tt
rows_within c tokens (t ∷ ts) before e good =
    let f : (before ++ t ∷ []) ++ ts ≡ tokens = append_assoc before (t ∷ []) ts ∙ e in
    (one_within c tokens before ts t f good, first_row c before ts t good, rows_within c tokens ts (before ++ (t ∷ [])) f (rest_good c before ts t good))

same_row : (u t : Token) → u.row < 0x1000000 → t.row < 0x1000000 → number_of u ≡ number_of t → (u.table ≡ t.table) × (u.row ≡ t.row)
same_row u t h k e = (omega arith, omega arith)

-- a token whose number is among theirs is such a row
named_within : (count : ℕ → ℕ) (tokens : List Token) (t : Token) → Within count tokens → t.row < 0x1000000 → list_any (λ m. m == number_of t) (map number_of tokens) ≡ true → t.row ≤ count t.table
named_within count [] t w small h = absurd cc
named_within count (u ∷ us) t w small h =
    elim (or_cases (number_of u == number_of t) (list_any (λ m. m == number_of t) (map number_of us)) h) [
      | inl here ↦
          let same = same_row u t w.1 small (eqb-true _ _ here) in
          rw (← same.0, ← same.1) w.0
      | inr behind ↦ named_within count us t w.2 small behind
    ]

kept_false : (p q : ℕ → Bool) (y : ℕ) (ys : List ℕ) (b : Bool) → p y ≡ b → (p y ≡ false → q y ≡ true) → (cond b (y ∷ filter p ys) (filter p ys)) ≡ [] → (q y ≡ true) × (filter p ys ≡ [])
kept_false p q y ys true e f h = absurd cc
kept_false p q y ys false e f h = (f e, h)

none_kept : (p q : ℕ → Bool) (ys : List ℕ) → ((n : ℕ) → p n ≡ false → q n ≡ true) → filter p ys ≡ [] → list_all q ys ≡ true
none_kept p q [] f h = refl
none_kept p q (y ∷ ys) f h =
    let k = kept_false p q y ys (p y) refl (f y) h in
    and_from _ _ k.0 (none_kept p q ys f k.1)

none_behind : (p q : ℕ → Bool) (xs ys : List ℕ) → ((n : ℕ) → p n ≡ false → q n ≡ true) → filter p (xs ++ ys) ≡ [] → list_all q ys ≡ true
none_behind p q [] ys f h = none_kept p q ys f h
none_behind p q (x ∷ xs) ys f h = none_behind p q xs ys f (kept_false p q x (xs ++ ys) (p x) refl (f x) h).1

not_one : (a b : Bool) → not (a && b) ≡ false → a ≡ true
not_one true b h = refl
not_one false b h = absurd cc

-- where two sets are the same, the numbers of the second are among the first
in_both : (ns ms : List ℕ) → set_fault ns ms ≡ None → list_all (stands_in ns) ms ≡ true
unfolding set_fault
in_both ns ms h = none_behind (in_one ns ms) (stands_in ns) ns ms (λ n e. not_one (stands_in ns n) (stands_in ms n) e) (no_least _ (no_place _ h))

-- each entry that counts and has code 0 names one of so many rows
abbrev pub Names : (ℕ → ℕ) → List LogEntry → Type 0
Names count [] = Unit {0}
Names count (e ∷ es) = (counts e ≡ true → e.operation ≡ 0 → e.token.row ≤ count e.token.table) × Names count es

-- each entry's row has a number of three bytes
abbrev Small : List LogEntry → Type 0
Small [] = Unit {0}
Small (e ∷ es) = (e.token.row < 0x1000000) × Small es

changed_yes : (e : LogEntry) (es : List LogEntry) → (counts e && e.operation == 0) ≡ true → changed (e ∷ es) ≡ e.token ∷ changed es
unfolding changed
changed_yes e es h = rw h refl

changed_no : (e : LogEntry) (es : List LogEntry) → (counts e && e.operation == 0) ≡ false → changed (e ∷ es) ≡ changed es
unfolding changed
changed_no e es h = rw h refl

both : (a : Bool) (n : ℕ) → (a && n == 0) ≡ false → a ≡ true → n ≡ 0 → ⊥
both true n h k e = let z : (n == 0) ≡ true = grind (arith, nat_tests) in absurd cc
both false n h k e = absurd cc

names_step : (count : ℕ → ℕ) (tokens : List Token) (e : LogEntry) (es : List LogEntry) (b : Bool) → (counts e && e.operation == 0) ≡ b → Within count tokens → e.token.row < 0x1000000 → list_all (stands_in (map number_of tokens)) (map number_of (changed (e ∷ es))) ≡ true → (list_all (stands_in (map number_of tokens)) (map number_of (changed es)) ≡ true → Names count es) → Names count (e ∷ es)
names_step count tokens e es true is w small h rest =
    let k = and_parts _ _ (rw (changed_yes e es is) at h) in
    ((λ on zero. named_within count tokens e.token w small k.0), rest k.1)
names_step count tokens e es false is w small h rest = ((λ on zero. absurd (both (counts e) e.operation is on zero)), rest (rw (changed_no e es is) at h))

names_from : (count : ℕ → ℕ) (tokens : List Token) (es : List LogEntry) → Within count tokens → Small es → list_all (stands_in (map number_of tokens)) (map number_of (changed es)) ≡ true → Names count es
names_from count tokens [] w small h = tt
names_from count tokens (e ∷ es) w small h = names_step count tokens e es (counts e && e.operation == 0) refl w small.0 h (names_from count tokens es w small.1)

found_step : (count : ℕ → ℕ) (e f : LogEntry) (o : Option LogEntry) (b : Bool) → counts e ≡ b → (counts e ≡ true → e.operation ≡ 0 → e.token.row ≤ count e.token.table) → (cond b (Some e) o) ≡ Some f → f.operation ≡ 0 → (o ≡ Some f → f.token.row ≤ count f.token.table) → f.token.row ≤ count f.token.table
found_step count e f o true is h at zero rest = let s : e ≡ f = cc in (rw s at h) (rw s at is) zero
found_step count e f o false is h at zero rest = rest at

-- the next entry that counts, where it has code 0
pub found_named : (count : ℕ → ℕ) (es : List LogEntry) (f : LogEntry) → Names count es → find counts es ≡ Some f → f.operation ≡ 0 → f.token.row ≤ count f.token.table
found_named count [] f names h zero = absurd cc
found_named count (e ∷ es) f names h zero = found_step count e f (find counts es) (counts e) refl names.0 h zero (λ at. found_named count es f names.1 at zero)

small_from : (s : Source) (is : List ℕ) → Small (map (entry_at s) is)
unfolding entry_at
small_from s [] = tt
small_from s (i ∷ is) = (mod-lt _ (omega arith), small_from s is)

small_log : (s : Source) → Small (log_in s)
unfolding log_in
small_log s = small_from s (below _)

-- the entries of a delta's log name rows after it
pub log_names : (c : Chain) (s : Source) → Lands c s → Names (rows_with c (listed s)) (log_in s)
unfolding unmatched_token
log_names c s f = names_from (rows_with c (listed s)) (listed s) (log_in s) (rows_within c (listed s) (listed s) [] refl (good_tokens c s f)) (small_log s) (in_both _ _ (landed c s f.early).sets)
