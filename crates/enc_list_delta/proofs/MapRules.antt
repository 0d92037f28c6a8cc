-- The rules on EncMap and on the tables of a delta, which that of a list breaks none of.
use Rattle.std.proofs.Common.{◌≡◌, ℕ, ◌+◌, ◌*◌, ◌<◌, Bool, true, false, List, [], ◌∷◌, length, map, None, refl, ap, ◌∙◌, inl, inr, arith}
use Rattle.std.specs.Prelude.{◌||◌, ◌==◌, not, nat_lt, nat_le, filter}
use Rattle.std.proofs.lemmas.Bool.{and_right, cases_Bool, or_parts}
use Rattle.std.proofs.lemmas.Bool.Decides.{nat_tests}
use Rattle.enc_base.specs.Token.{number_of}
use Rattle.enc_base.specs.declared.token.Token.{Token}
use Rattle.enc_base.specs.declared.refusal.Place.{Place}
use Rattle.enc_base.specs.declared.refusal.Place.TheVariants as place
use Rattle.enc_plain.specs.Chain.{Chain}
use Rattle.enc_rows.specs.Layout.{rows_of}
use Rattle.enc_rows.specs.Source.{Source}
use Rattle.enc_delta.specs.Delta.{listed, of_table}
use Rattle.enc_delta.specs.Judged.{late_token, skipped_row}
use Rattle.enc_delta.specs.Rules.{broken, late, late_fault, rows_for, uneven_at, uneven_table, may_change, closed_at, closed_table, too_many_in, too_many}
use Rattle.enc_edit_list.specs.declared.edit.EditList.{EditList}
use Rattle.enc_rules.specs.Listed.{count_after}
use Rattle.enc_rules.specs.Rules.{there_are_too_many}
use Rattle.enc_list_delta.specs.Delta.{tokens_written, map_written}
use Rattle.enc_list_delta.specs.Holds.{MayFollow, SaysDelta, is_listed_table}
use Rattle.enc_list_delta.specs.Laws.{KeepsTo}
use Rattle.enc_list_delta.proofs.TokensUnbroken.{other_rules, nothing_breaks, counts_fit}
use Rattle.enc_list_delta.proofs.TokensWritten.{Rise}
use Rattle.enc_list_delta.proofs.Tokens.{module_empty, log_empty, map_empty, unchanging_empty, map_rise, listed_is, listed_of_table}
use Rattle.enc_list_delta.proofs.TokensInserts.{all_silent, written_in_order, listed_rows}

pub unbroken : (b : Bool) (p : Place) → b ≡ false → broken b p ≡ None
unbroken true p h = absurd cc
unbroken false p h = refl

-- of numbers that rise none is late
none_low : (low n high : ℕ) (ts : List Token) → n < low → Rise low ts high → filter (λ m. nat_le m n) (map number_of ts) ≡ []
none_low low n high [] less h = refl
none_low low n high (t ∷ ts) less h =
    let here : nat_le (number_of t) n ≡ false = grind (arith, nat_tests, less, h.0) in
    let first = h.0 in
    rw here (none_low (number_of t + 1) n high ts (omega (arith, less, first)) h.1)

none_late : (low high : ℕ) (ts : List Token) → Rise low ts high → late (map number_of ts) ≡ []
none_late low high [] h = refl
none_late low high (t ∷ ts) h = rw (none_low (number_of t + 1) (number_of t) high ts (omega arith) h.1) (none_late (number_of t + 1) high ts h.1)

-- E6
pub keeps_rising : KeepsTo late_token
unfolding late_token late_fault
keeps_rising c l s may says = rw (listed_is c l s may says, none_late 0 (64 * 0x1000000) (map_written c l.edits) (map_rise c l may)) refl

-- which tables tokens stand for
listed_or_not : (table : ℕ) → (P : ℕ → Type 0) → P 0 → P 0x1E → P 0x1F → (is_listed_table table ≡ true → P table) → P table
listed_or_not table P a b d other = by_tests (table == 0) (table == 0x1E) (table == 0x1F) refl refl refl
  where
    by_tests : (x y z : Bool) → (table == 0) ≡ x → (table == 0x1E) ≡ y → (table == 0x1F) ≡ z → P table
    by_tests true y z p q r = let e : table ≡ 0 = grind (arith, nat_tests, p) in rw e a
    by_tests false true z p q r = let e : table ≡ 0x1E = grind (arith, nat_tests, q) in rw e b
    by_tests false false true p q r = let e : table ≡ 0x1F = grind (arith, nat_tests, r) in rw e d
    by_tests false false false p q r = other (rw (p, q, r) refl)

flipped : (a b : ℕ) → (a == b) ≡ (b == a)
flipped a b = elim (cases_Bool (a == b)) [
  | inl h ↦ grind (arith, nat_tests, h)
  | inr h ↦ grind (arith, nat_tests, h)
]

own_rows : (s : Source) (table : ℕ) (x y z : Bool) → (0 == table) ≡ x → (0x1E == table) ≡ y → (0x1F == table) ≡ z → not ((x || y) || z) ≡ true → rows_for s table ≡ rows_of s.layout table
own_rows s table false false false p q r h = rw (p, q, r) refl
own_rows s table false false true p q r h = absurd cc
own_rows s table false true z p q r h = absurd cc
own_rows s table true y z p q r h = absurd cc

rows_are : (s : Source) (table : ℕ) → is_listed_table table ≡ true → rows_for s table ≡ rows_of s.layout table
rows_are s table h = own_rows s table (0 == table) (0x1E == table) (0x1F == table) refl refl refl (rw (flipped 0 table, flipped 0x1E table, flipped 0x1F table) h)

even : (s : Source) (table n : ℕ) (ts : List Token) → of_table table (listed s) ≡ ts → rows_for s table ≡ n → n ≡ length ts → uneven_at s table ≡ None
unfolding uneven_at
even s table n ts e f g = rw (e, f, g) (unbroken _ (place.Row (record { table = table; row = 0 })) (same (length ts)))
  where
    same : (k : ℕ) → not (k == k) ≡ false
    same k = grind (arith, nat_tests)

-- E7
pub keeps_even : KeepsTo (λ c s. uneven_table s)
unfolding uneven_table
keeps_even c l s may says =
    let none = nothing_breaks c l may in
    let its = listed_of_table c l s may says in
    all_silent (uneven_at s) 0x100 (λ table low. listed_or_not table (λ t. uneven_at s t ≡ None)
    (even s 0 0 [] (its 0 ∙ module_empty c l none) refl refl)
    (even s 0x1E 0 [] (its 0x1E ∙ log_empty c l none) refl refl)
    (even s 0x1F 0 [] (its 0x1F ∙ map_empty c l none) refl refl)
    (λ is. even s table (rows_of s.layout table) (tokens_written c l.edits table) (its table) (rows_are s table is) (says.counts table is)))

-- E8
pub keeps_order : KeepsTo skipped_row
unfolding skipped_row
keeps_order c l s may says = rw (listed_is c l s may says) (written_in_order c l)

-- E12
open_at : (s : Source) (table : ℕ) → (may_change table ≡ false → rows_of s.layout table ≡ 0) → closed_at s table ≡ None
unfolding closed_at
open_at s table none = elim (cases_Bool (may_change table)) [
  | inl may ↦ rw may (unbroken _ (place.Row (record { table = table; row = 0 })) (and_right (nat_lt 0 (rows_of s.layout table)) false refl))
  | inr shut ↦ rw (none shut) refl
]

pub keeps_open : KeepsTo (λ c s. closed_table s)
unfolding closed_table
keeps_open c l s may says =
    let none = nothing_breaks c l may in
    all_silent (closed_at s) 0x100 (λ table low. listed_or_not table (λ t. closed_at s t ≡ None)
    (open_at s 0 (λ shut. let f : true ≡ false = shut in absurd cc))
    (open_at s 0x1E (λ shut. let f : true ≡ false = shut in absurd cc))
    (open_at s 0x1F (λ shut. let f : true ≡ false = shut in absurd cc))
    (λ is. open_at s table (λ shut. says.counts table is ∙ ap length (unchanging_empty c l table none shut))))

-- E24
ids_few : (c : Chain) (l : EditList) → there_are_too_many c l ≡ false → nat_lt 65535 (length c.ids + 1) ≡ false
unfolding there_are_too_many
ids_few c l h = (or_parts (nat_lt 65535 (length c.ids + 1)) _ (or_parts _ _ h).0).0

few_in : (c : Chain) (l : EditList) (s : Source) → MayFollow c l → SaysDelta c l s → (table : ℕ) → too_many_in c s table ≡ None
unfolding too_many_in
few_in c l s may says table =
    let few = counts_fit c l may table in
    let low : nat_lt 0xFFFFFF (count_after c l.edits table) ≡ false = grind (arith, nat_tests, few) in
    rw (listed_rows c l s may says table, low) refl

pub keeps_few : KeepsTo too_many
unfolding too_many
keeps_few c l s may says =
    rw (ids_few c l (other_rules c l may).few) (all_silent (too_many_in c s) 0x2D (λ table low. few_in c l s may says table))
