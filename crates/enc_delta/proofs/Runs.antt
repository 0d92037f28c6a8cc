-- The tokens of one table, one behind the other.
use Rattle.std.proofs.Common.{◌≡◌, ℕ, zero, suc, ◌+◌, ◌-◌, ◌<◌, ◌≤◌, length, List, [], ◌∷◌, Bool, true, false, Option, Some, None, refl, sym, ◌∙◌, arith, drop, take, get_or}
use Rattle.std.specs.Prelude.{slice_get, ◌==◌, nat_lt}
use Rattle.std.proofs.lemmas.Option.{slice_get_past}
use Rattle.enc_base.specs.declared.token.Token.{Token}
use Rattle.std.proofs.lemmas.Bool.Decides.{nat_tests}
use Rattle.enc_base.specs.Order.{or_else, first_below}
use Rattle.enc_base.specs.declared.refusal.Place.{Place}
use Rattle.enc_base.proofs.First.{first_more}
use Rattle.enc_schema.specs.declared.column.Column.{Column}
use Rattle.enc_plain.specs.Chain.{Chain}
use Rattle.enc_rows.specs.Source.{Source}
use Rattle.enc_delta.specs.Delta.{of_table, listed}
use Rattle.std.proofs.lemmas.List.{take_all}
use Rattle.enc_delta.specs.Rules.{broken, row_fault, broken_body_at, lost_body_at}
use Rattle.enc_delta.specs.Cells.{begins_with}

pub not_of : (table : ℕ) (t : Token) (ts : List Token) → (t.table == table) ≡ false → of_table table (t ∷ ts) ≡ of_table table ts
not_of table t ts h = rw h refl

pub one_of : (table : ℕ) (t : Token) (ts : List Token) → (t.table == table) ≡ true → of_table table (t ∷ ts) ≡ t ∷ of_table table ts
one_of table t ts h = rw h refl

-- what the rest of a list tells of it
pub next_get : {X : Type 0} (x : X) (xs all : List X) (r : ℕ) → x ∷ xs ≡ drop r all → slice_get all r ≡ Some x
next_get x xs [] zero h = absurd cc
next_get x xs [] (suc r) h = absurd cc
next_get x xs (y ∷ ys) zero h = cc
next_get x xs (y ∷ ys) (suc r) h = next_get x xs ys r h

pub next_drop : {X : Type 0} (x : X) (xs all : List X) (r : ℕ) → x ∷ xs ≡ drop r all → xs ≡ drop (suc r) all
next_drop x xs [] zero h = absurd cc
next_drop x xs [] (suc r) h = absurd cc
next_drop x xs (y ∷ ys) zero h = cc
next_drop x xs (y ∷ ys) (suc r) h = next_drop x xs ys r h

pub next_end : {X : Type 0} (all : List X) (r : ℕ) → [] ≡ drop r all → length all ≤ r
next_end [] r h = omega arith
next_end (y ∷ ys) zero h = absurd cc
next_end (y ∷ ys) (suc r) h = omega (arith, next_end ys r h)

-- the first token and those behind it
pub split_of : (table : ℕ) (ts : List Token) (d : Token) → 1 ≤ length ts → begins_with table ts ≡ true → of_table table ts ≡ get_or ts 0 d ∷ of_table table (take (length ts - 1) (drop 1 ts))
split_of table [] d low first = absurd (omega arith)
split_of table (t ∷ ts) d low first =
    let e : length (t ∷ ts) - 1 ≡ length ts = omega arith in
    rw (e, take_all (length ts) ts (omega arith)) (one_of table t ts first)

pub empty_of : (table : ℕ) (ts : List Token) → length ts < 1 → [] ≡ of_table table ts
empty_of table [] few = refl
empty_of table (t ∷ ts) few = absurd (omega arith)

-- the first token behind r of a table is the table's r-th, and the others go on behind r + 1
pub run_next : (table : ℕ) (ts rest : List Token) (all : List Token) (r : ℕ) (d : Token) → 1 ≤ length ts → begins_with table ts ≡ true → of_table table ts ≡ of_table table rest → of_table table rest ≡ drop r all → (slice_get all r ≡ Some (get_or ts 0 d)) × (of_table table (take (length ts - 1) (drop 1 ts)) ≡ drop (r + 1) all)
run_next table ts rest all r d low first same behind =
    let run : get_or ts 0 d ∷ of_table table (take (length ts - 1) (drop 1 ts)) ≡ drop r all = sym (split_of table ts d low first) ∙ same ∙ behind in
    let e : r + 1 ≡ suc r = omega arith in
    (next_get (get_or ts 0 d) _ all r run, rw e (next_drop (get_or ts 0 d) _ all r run))

-- no token, no fault
no_token : (c : Chain) (s : Source) (asks : Column → Bool) (table r : ℕ) → slice_get (of_table table (listed s)) r ≡ None → row_fault c s asks table r ≡ None
unfolding row_fault
no_token c s asks table r h = rw h refl

further : (rule : ℕ → Option Place) (tokens : List Token) (r d : ℕ) → ((k : ℕ) → slice_get tokens k ≡ None → rule k ≡ None) → length tokens ≤ r → first_below rule r ≡ None → first_below rule (r + d) ≡ None
further rule tokens r zero silent past h = let e : r + 0 ≡ r = omega arith in rw e h
further rule tokens r (suc d) silent past h =
    let e : r + suc d ≡ r + d + 1 = omega arith in
    rw e (first_more rule (r + d) (further rule tokens r d silent past h) ∙ silent (r + d) (slice_get_past tokens (r + d) (omega arith)))

-- past the tokens of a table a rule that asks for one answers nothing
pub past_all : (rule : ℕ → Option Place) (tokens : List Token) (r n : ℕ) → ((k : ℕ) → slice_get tokens k ≡ None → rule k ≡ None) → r ≤ n → length tokens ≤ r → first_below rule r ≡ None → first_below rule n ≡ None
past_all rule tokens r n silent le past h =
    let e : n ≡ r + (n - r) = omega arith in
    rw e (further rule tokens r (n - r) silent past h)

pub past_tokens : (c : Chain) (s : Source) (asks : Column → Bool) (table r n : ℕ) → r ≤ n → length (of_table table (listed s)) ≤ r → first_below (row_fault c s asks table) r ≡ None → first_below (row_fault c s asks table) n ≡ None
past_tokens c s asks table r n le past h = past_all (row_fault c s asks table) (of_table table (listed s)) r n (no_token c s asks table) le past h

no_body : (c : Chain) (s : Source) (r : ℕ) → slice_get (of_table 0x06 (listed s)) r ≡ None → broken_body_at c s r ≡ None
unfolding broken_body_at
no_body c s r h = rw h refl

pub past_bodies : (c : Chain) (s : Source) (r n : ℕ) → r ≤ n → length (of_table 0x06 (listed s)) ≤ r → first_below (broken_body_at c s) r ≡ None → first_below (broken_body_at c s) n ≡ None
past_bodies c s r n le past h = past_all (broken_body_at c s) (of_table 0x06 (listed s)) r n (no_body c s) le past h

no_loss : (c : Chain) (s : Source) (r : ℕ) → slice_get (of_table 0x06 (listed s)) r ≡ None → lost_body_at c s r ≡ None
unfolding lost_body_at
no_loss c s r h = rw h refl

pub past_losses : (c : Chain) (s : Source) (r n : ℕ) → r ≤ n → length (of_table 0x06 (listed s)) ≤ r → first_below (lost_body_at c s) r ≡ None → first_below (lost_body_at c s) n ≡ None
past_losses c s r n le past h = past_all (lost_body_at c s) (of_table 0x06 (listed s)) r n (no_loss c s) le past h

-- as long as the deltas are few, the tables decide
pub within_limit : (c : Chain) (p : Place) (tables o : Option Place) → length c.ids + 1 ≤ 65535 → o ≡ tables → o ≡ or_else (broken (nat_lt 65535 (length c.ids + 1)) p) tables
within_limit c p tables o few is = let e : nat_lt 65535 (length c.ids + 1) ≡ false = grind (arith, nat_tests) in rw e is
