-- EncMap, token by token and table by table.
use Rattle.std.proofs.Common.{◌≡◌, ℕ, ◌+◌, ◌-◌, ◌*◌, ◌<◌, ◌≤◌, true, false, List, [], ◌∷◌, ◌++◌, length, map, cond, refl, sym, ap, ◌∙◌, subst, inl, inr, arith, add-one, append_assoc}
use Rattle.std.specs.Prelude.{◌^◌, nat_lt, nat_le, flat_map}
use Rattle.std.specs.List.{list_any, list_all, range_with_len}
use Rattle.std.proofs.lemmas.Bool.{or_cases, and_parts, and_from}
use Rattle.std.proofs.lemmas.Bool.Decides.{nat_tests}
use Rattle.std.proofs.lemmas.Grind.{flat_map-append}
use Rattle.std.proofs.lemmas.List.{append-nil, length-append, length-map, map-append}
use Rattle.std.proofs.lemmas.List.Concat.{flat_map-cons}
use Rattle.std.proofs.lemmas.List.Folds.{list_all-append}
use Rattle.enc_base.specs.Token.{nth_row, number_of, is_token}
use Rattle.enc_base.specs.declared.token.Token.{Token}
use Rattle.enc_plain.specs.Chain.{Chain}
use Rattle.enc_plain.proofs.Applied.{same_is}
use Rattle.enc_rows.specs.Sums.{below}
use Rattle.enc_rows.proofs.Runs.{range_more}
use Rattle.enc_schema.specs.Schema.{columns_in}
use Rattle.enc_base.specs.Tables.{enc_map}
use Rattle.enc_edit_list.specs.declared.edit.EditList.{EditList}
use Rattle.enc_rules.specs.Edited.{rows_edited}
use Rattle.enc_rules.specs.Listed.{count_after}
use Rattle.enc_rules.proofs.RowsEdited.{rows_all}
use Rattle.enc_rules.proofs.RowsFew.{edits_short}
use Rattle.enc_list_delta.specs.Delta.{is_edited, tokens_written, map_written}
use Rattle.enc_list_delta.specs.Holds.{MayFollow, token_numbers}
use Rattle.enc_list_delta.proofs.TokensUnbroken.{other_rules, counts_fit}
use Rattle.enc_list_delta.proofs.TokensWritten.{Rise, rise_append, rise_to, passing_rise, all_passing, one_more, none_passing}
use Rattle.enc_list_delta.proofs.TokensByTable.{all_rise, all_pass}
use Rattle.enc_list_delta.proofs.Tokens.{all_about}
use Rattle.enc_writer.specs.RowsWriting.{edited_below}
use Rattle.enc_writer.specs.MapWriting.{tokens_below, TablesMapped, RowsMapped}

-- EncMap has one column
pub map_columns : nat_lt 0 (length (columns_in enc_map)) ≡ true
unfolding columns_in
map_columns = refl

pub map_width : length (columns_in enc_map) ≡ 1
unfolding columns_in
map_width = refl

-- how many tokens of a list have no number below one
abbrev many_from : ℕ → List Token → ℕ
many_from low [] = 0
many_from low (t ∷ ts) = cond (nat_le low (number_of t)) 1 0 + many_from low ts

-- they are at most all
many_all : (low : ℕ) (ts : List Token) → many_from low ts ≤ length ts
many_all low [] = omega arith
many_all low (t ∷ ts) = let rest = many_all low ts in grind (arith, nat_tests, rest)

-- from a higher number on no more, and fewer where a token lies between
many_fewer : (low high : ℕ) (ts : List Token) → low ≤ high → many_from high ts ≤ many_from low ts
many_fewer low high [] le = omega arith
many_fewer low high (t ∷ ts) le = let rest = many_fewer low high ts le in grind (arith, nat_tests, rest, le)

many_between : (low : ℕ) (ts : List Token) (u : Token) → low ≤ number_of u → list_any (λ t. is_token t u) ts ≡ true → many_from (number_of u + 1) ts + 1 ≤ many_from low ts
many_between low [] u le there = absurd cc
many_between low (t ∷ ts) u le there = elim (or_cases (is_token t u) (list_any (λ t. is_token t u) ts) there) [
  | inl here ↦
      let rest = many_fewer low (number_of u + 1) ts (omega (arith, le)) in
      let number : number_of t ≡ number_of u = ap number_of (same_is t u here) in
      grind (arith, nat_tests, rest, number, le)
  | inr behind ↦ let rest = many_between low ts u le behind in grind (arith, nat_tests, rest, le)
]

-- tokens that rise are at most as many as those of a list where each stands
rising_few : (low high : ℕ) (xs ys : List Token) → Rise low xs high → list_all (λ u. list_any (λ t. is_token t u) ys) xs ≡ true → length xs ≤ many_from low ys
rising_few low high [] ys rise all = omega arith
rising_few low high (x ∷ xs) ys rise all =
    let two = and_parts (list_any (λ t. is_token t x) ys) (list_all (λ u. list_any (λ t. is_token t u) ys) xs) all in
    let rest = rising_few (number_of x + 1) high xs ys rise.1 two.1 in
    let more = many_between low ys x rise.0 two.0 in
    omega (arith, rest, more)

edited_few : (c : Chain) (l : EditList) (high : ℕ) (xs : List Token) → Rise 0 xs high → list_all (is_edited c.plain l.edits) xs ≡ true → length xs ≤ length l.edits
unfolding is_edited
edited_few c l high xs rise all =
    let few = rising_few 0 high xs (rows_edited c.plain l.edits) rise all in
    let most = many_all 0 (rows_edited c.plain l.edits) in
    let rows = rows_all c.plain l.edits in
    omega (arith, few, most, rows)

-- the tokens so far rise, and edits are about each
rows_rise : (c : Chain) (l : EditList) (table n : ℕ) → MayFollow c l → n ≤ count_after c l.edits table → Rise (table * 0x1000000) (edited_below c l table n) ((table + 1) * 0x1000000)
rows_rise c l table n may low =
    let few = counts_fit c l may table in
    rise_to (table * 0x1000000) (table * 0x1000000 + n + 1) ((table + 1) * 0x1000000) (edited_below c l table n) (omega (arith, few, low)) (passing_rise (is_edited c.plain l.edits) table n)

tables_rise : (c : Chain) (l : EditList) (table : ℕ) → MayFollow c l → Rise 0 (tokens_below c l table) (table * 0x1000000)
unfolding tokens_written
tables_rise c l table may = all_rise (tokens_written c l.edits) table (λ k. rows_rise c l k (count_after c l.edits k) may (omega arith))

all_edited : (c : Chain) (l : EditList) (table n : ℕ) → list_all (is_edited c.plain l.edits) (tokens_below c l table ++ edited_below c l table n) ≡ true
all_edited c l table n =
    let p = is_edited c.plain l.edits in
    list_all-append p (tokens_below c l table) (edited_below c l table n)
    ∙ and_from _ _ (all_pass p (tokens_written c l.edits) table (all_about c l.edits)) (all_passing p p table n (λ k low h. h))

tokens_few : (c : Chain) (l : EditList) (table n : ℕ) → MayFollow c l → n ≤ count_after c l.edits table → length (tokens_below c l table ++ edited_below c l table n) ≤ length l.edits
tokens_few c l table n may low =
    edited_few c l ((table + 1) * 0x1000000) (tokens_below c l table ++ edited_below c l table n)
    (rise_append 0 (table * 0x1000000) ((table + 1) * 0x1000000) (tokens_below c l table) (edited_below c l table n) (tables_rise c l table may) (rows_rise c l table n may low))
    (all_edited c l table n)

-- the rows at the front of a table that edits aren't about
pub begin_mapped : (c : Chain) (l : EditList) (table n : ℕ) (rows : List (List ℕ)) → TablesMapped c l table rows → ((k : ℕ) → k < n → is_edited c.plain l.edits (nth_row table k) ≡ false) → RowsMapped c l table n rows
begin_mapped c l table n rows so_far none =
    let empty : edited_below c l table n ≡ [] = none_passing (is_edited c.plain l.edits) table n none in
    so_far ∙ ap (map token_numbers) (sym (append-nil (tokens_below c l table)) ∙ ap (λ ts. tokens_below c l table ++ ts) (sym empty))

-- one row more that is edited, and one that isn't
pub one_mapped : (c : Chain) (l : EditList) (table n : ℕ) (rows new : List (List ℕ)) → RowsMapped c l table n rows → is_edited c.plain l.edits (nth_row table n) ≡ true
    → new ≡ rows ++ token_numbers (nth_row table n) ∷ [] → RowsMapped c l table (n + 1) new
one_mapped c l table n rows new so_far about is =
    let xs = tokens_below c l table in
    let ys = edited_below c l table n in
    let t = nth_row table n in
    subst (λ k. RowsMapped c l table k new) (sym (add-one n)) (one_more (λ ts. new ≡ map token_numbers (xs ++ ts)) (is_edited c.plain l.edits) table n
    (λ h. is ∙ ap (λ r. r ++ token_numbers t ∷ []) so_far ∙ sym (map-append token_numbers (xs ++ ys) (t ∷ [])) ∙ ap (map token_numbers) (append_assoc xs ys (t ∷ [])))
    (λ h. let bad : true ≡ false = sym about ∙ h in absurd cc))

pub none_mapped : (c : Chain) (l : EditList) (table n : ℕ) (rows : List (List ℕ)) → RowsMapped c l table n rows → is_edited c.plain l.edits (nth_row table n) ≡ false → RowsMapped c l table (n + 1) rows
none_mapped c l table n rows so_far about =
    subst (λ k. RowsMapped c l table k rows) (sym (add-one n)) (one_more (λ ts. rows ≡ map token_numbers (tokens_below c l table ++ ts)) (is_edited c.plain l.edits) table n
    (λ h. let bad : true ≡ false = sym h ∙ about in absurd cc)
    (λ h. so_far))

-- before a row that is edited EncMap has room
pub few_mapped : (c : Chain) (l : EditList) (table n : ℕ) (rows : List (List ℕ)) → MayFollow c l → n < count_after c l.edits table → RowsMapped c l table n rows → is_edited c.plain l.edits (nth_row table n) ≡ true
    → length rows < 2 ^ 24 - 1
few_mapped c l table n rows may low so_far about =
    let new = rows ++ token_numbers (nth_row table n) ∷ [] in
    let more = one_mapped c l table n rows new so_far about refl in
    let xs = tokens_below c l table ++ edited_below c l table (n + 1) in
    let last = length-append rows (token_numbers (nth_row table n) ∷ []) in
    let all : length new ≡ length xs = ap length more ∙ length-map xs token_numbers in
    let few = tokens_few c l table (n + 1) may (omega (arith, low)) in
    let short = edits_short c l (other_rules c l may).few in
    omega (arith, last, all, few, short)

-- all rows of a table, no table yet, and all tables
pub lists_more : {A : Type 0} (f : ℕ → List A) (n : ℕ) → flat_map f (below (n + 1)) ≡ flat_map f (below n) ++ f n
unfolding below
lists_more f n =
    let z : 0 + n ≡ n = omega arith in
    let one : flat_map f ((0 + n) ∷ []) ≡ f n = flat_map-cons f (0 + n) [] ∙ append-nil (f (0 + n)) ∙ ap f z in
    rw (range_more 0 n) (flat_map-append f (range_with_len 0 n) ((0 + n) ∷ []) ∙ ap (λ xs. flat_map f (range_with_len 0 n) ++ xs) one)

pub table_mapped : (c : Chain) (l : EditList) (table : ℕ) (rows : List (List ℕ)) → RowsMapped c l table (count_after c l.edits table) rows → TablesMapped c l (table + 1) rows
unfolding tokens_written
table_mapped c l table rows so_far = so_far ∙ ap (map token_numbers) (sym (lists_more (tokens_written c l.edits) table))

pub no_table_mapped : (c : Chain) (l : EditList) (rows : List (List ℕ)) → rows ≡ [] → TablesMapped c l 0 rows
unfolding below
no_table_mapped c l rows none = none

pub all_mapped : (c : Chain) (l : EditList) (rows : List (List ℕ)) → TablesMapped c l 64 rows → rows ≡ map token_numbers (map_written c l.edits)
unfolding map_written
all_mapped c l rows so_far = so_far
