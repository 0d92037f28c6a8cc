-- The metadata of the merged delta is read as a delta that says what the two say.
use Rattle.std.proofs.Common.{◌≡◌, ℕ, zero, suc, ◌+◌, ◌-◌, ◌<◌, ◌≤◌, Bool, true, false, List, [], ◌∷◌, ◌++◌, length, map, Option, Some, None, refl, sym, ap, ◌∙◌, subst, inl, inr, arith}
use Rattle.std.specs.Prelude.{◌⊎◌, ◌%◌, ◌&&◌, ◌||◌, ◌==◌, not, filter, is_some, nat_lt, option_and_then, unwrap_or, slice_get, slice_index}
use Rattle.std.specs.List.{list_all}
use Rattle.std.specs.List.Sorted.{IsStrictlyIncreasing}
use Rattle.std.proofs.lemmas.Bool.{and_from, and_parts, cases_lt, eqb-true, or_cases, or_left, or_right}
use Rattle.std.proofs.lemmas.Bool.Decides.{nat_tests}
use Rattle.enc_base.specs.Token.{is_token, nth_row, number_of, token_of}
use Rattle.enc_base.specs.declared.token.Token.{Token}
use Rattle.enc_emit.specs.Written.{that_count}
use Rattle.enc_meta.specs.Heaps.{Counted, nil_guid}
use Rattle.enc_meta.specs.Joined.{joined_text, joined_blob, joined_guid, joined_user}
use Rattle.enc_meta.specs.Regions.{Region}
use Rattle.enc_plain.specs.Bodies.{body_loaded, code_is_good, code_loaded}
use Rattle.enc_plain.specs.Cell.{Kind, is_body, is_field, kind_in}
use Rattle.enc_plain.specs.Chain.{Chain, rows_before}
use Rattle.enc_plain.specs.Module.{cell_of}
use Rattle.enc_plain.specs.Reading.{Reading, cell_with}
use Rattle.enc_plain.proofs.Applied.{same_is}
use Rattle.enc_plain.proofs.NamePlaces.{get_within}
use Rattle.enc_rows.specs.Layout.{rows_of}
use Rattle.enc_rows.specs.Source.{Source, raw_in}
use Rattle.enc_rows.specs.Sums.{below}
use Rattle.enc_rows.specs.Written.{rows_at, count_at, has_cells, AreRows}
use Rattle.enc_schema.specs.Columns as columns
use Rattle.enc_schema.specs.Schema.{column_in, columns_in}
use Rattle.enc_base.specs.Tables as tables
use Rattle.enc_schema.specs.declared.column.Column.{Column}
use Rattle.enc_schema.specs.declared.column.Column.TheVariants.{Num32}
use Rattle.enc_delta.specs.Delta.{delta_of, entry_at, is_module, listed, loaded_code, log_in, map_in, of_table, place_in}
use Rattle.enc_delta.specs.Rows.{cell_after, own_row}
use Rattle.enc_delta.specs.Rules.{counted, counts, heaps_after, inserts, module_token, own_guid, reading_after, rows_with, stands_in}
use Rattle.enc_delta.specs.declared.log_entry.LogEntry.{LogEntry}
use Rattle.enc_agg.specs.Extend.{extended}
use Rattle.enc_agg.specs.Follows.{Lands}
use Rattle.enc_agg.specs.Seen.{History}
use Rattle.enc_agg.proofs.Tokens.{all_filter, place_token}
use Rattle.enc_list_delta.specs.Holds.{token_numbers}
use Rattle.enc_list_delta.proofs.ReadBack.{IsDeltaReadAs, counted_is_read}
use Rattle.enc_list_delta.proofs.WrittenSays.{is_low, log_says, map_says, token_back}
use Rattle.enc_reference_depth.specs.Depth.{IsShallow}
use Rattle.enc_merged_delta.specs.Held.{RowHeld, heaps_with_merged, il_merged, number_of_both, reading_merged}
use Rattle.enc_merged_delta.specs.Merged.{SaysMerged, SaysRowMerged, after_both, has_tokens, heaps_merged, is_in_either, is_in_map}
use Rattle.enc_merged_delta.proofs.Among.{lists, number_there, self}
use Rattle.enc_merged_delta.proofs.Counts.{held, order_of}
use Rattle.enc_merge.specs.Merges.{HasNumbersOfBoth}
use Rattle.enc_merge.specs.Writing.{AreLast, AreOfEither, AreRowsHeld, AreBothTables, Both, MetadataIsRead, chain_of_both, heaps_put, tokens_of}
use Rattle.enc_merge.proofs.LastTwo.{may_merge}
use Rattle.enc_merge.proofs.NewestRows.{place_any}
use Rattle.enc_merge.proofs.TokenRows.{as_many, number_lists, token_table}

-- what holds of the token of each number holds of all
all_tokens : (p : Token → Bool) (ns : List ℕ) → ((n : ℕ) → stands_in ns n ≡ true → p (token_of n) ≡ true) → list_all p (tokens_of ns) ≡ true
all_tokens p [] each = refl
all_tokens p (n ∷ ns) each =
    and_from (p (token_of n)) (list_all p (tokens_of ns)) (each n (or_left (n == n) (stands_in ns n) (grind (arith, nat_tests))))
    (all_tokens p ns (λ m there. each m (or_right (n == m) (stands_in ns m) there)))

row_low : (n : ℕ) → nat_lt (n % 0x1000000) 0x1000000 ≡ true
row_low n = let low : n % 0x1000000 < 0x1000000 = omega arith in grind (arith, nat_tests, low)

number_is : (n : ℕ) → number_of (token_of n) ≡ n
number_is n = omega arith

numbers_are : (ns : List ℕ) → map number_of (tokens_of ns) ≡ ns
numbers_are [] = refl
numbers_are (n ∷ ns) = ap (λ m. m ∷ map number_of (tokens_of ns)) (number_is n) ∙ ap (λ ms. n ∷ ms) (numbers_are ns)

map_rows : (ns : List ℕ) → map (λ (n : ℕ). n ∷ []) ns ≡ map token_numbers (tokens_of ns)
map_rows [] = refl
map_rows (n ∷ ns) = ap (λ m. (m ∷ []) ∷ map (λ (k : ℕ). k ∷ []) ns) (sym (number_is n)) ∙ ap (λ rows. (number_of (token_of n) ∷ []) ∷ rows) (map_rows ns)

all_kept : (p : Token → Bool) (ts : List Token) → list_all p ts ≡ true → filter p ts ≡ ts
all_kept p [] all = refl
all_kept p (t ∷ ts) all = let both = and_parts (p t) (list_all p ts) all in rw both.0 (ap (λ us. t ∷ us) (all_kept p ts both.1))

not_module : (t : Token) → has_tokens t.table ≡ true → not (is_module t) ≡ true
not_module t has = by (t.table == 0) refl has
  where
    by : (b : Bool) → (t.table == 0) ≡ b → not (b || t.table == tables.enc_log || t.table == tables.enc_map) ≡ true → not (b && t.row == 1) ≡ true
    by true is h = absurd cc
    by false is h = refl

-- the tables of the tokens
tables_low : (h : History) (x : Both) (numbers : List ℕ) → AreLast h x → AreOfEither x.first x.second numbers → list_all (λ (t : Token). nat_lt t.table 0x2D) (tokens_of numbers) ≡ true
tables_low h x numbers are tokens = all_tokens (λ (t : Token). nat_lt t.table 0x2D) numbers (λ n there.
    let low = (token_table h x (token_of n) are (number_lists h x numbers n are tokens there)).low in grind (arith, nat_tests, low))

none_in : (table : ℕ) (ts : List Token) → 0x2D ≤ table → list_all (λ (t : Token). nat_lt t.table 0x2D) ts ≡ true → length (of_table table ts) ≡ 0
none_in table [] past low = refl
none_in table (t ∷ ts) past low =
    let both = and_parts (nat_lt t.table 0x2D) (list_all (λ (u : Token). nat_lt u.table 0x2D) ts) low in
    let under : t.table < 0x2D = let e = both.0 in grind (arith, nat_tests, e) in
    let apart : (t.table == table) ≡ false = grind (arith, nat_tests, under, past) in
    rw apart (none_in table ts past both.1)

has_past : (table : ℕ) → 0x2D ≤ table → has_tokens table ≡ true
has_past table past =
    let a : (table == tables.«module») ≡ false = grind (arith, nat_tests, past) in
    let b : (table == tables.enc_log) ≡ false = grind (arith, nat_tests, past) in
    let c : (table == tables.enc_map) ≡ false = grind (arith, nat_tests, past) in
    rw (a, b, c) refl

past_none : (h : History) (x : Both) (numbers : List ℕ) (rows : List (List (List ℕ))) (table : ℕ) → AreLast h x → AreOfEither x.first x.second numbers → AreBothTables x numbers rows → 0x2D ≤ table
    → count_at rows table ≡ 0
past_none h x numbers rows table are tokens held past =
    as_many x (of_table table (tokens_of numbers)) (rows_at rows table) (held.listed table (has_past table past))
    ∙ none_in table (tokens_of numbers) past (tables_low h x numbers are tokens)

-- EncLog
abbrev entry_low : LogEntry → Bool
entry_low e = is_low e.token

entries_low : (s : Source) → list_all entry_low (log_in s) ≡ true
unfolding log_in entry_at
entries_low s = go (below (rows_of s.layout tables.enc_log))
  where
    go : (is : List ℕ) → list_all entry_low (map (entry_at s) is) ≡ true
    go [] = refl
    go (i ∷ is) = and_from (entry_low (entry_at s i)) (list_all entry_low (map (entry_at s) is)) (row_low (raw_in s (nth_row tables.enc_log i) columns.enc_log_token)) (go is)

counted_low : (s : Source) → list_all entry_low (counted (log_in s)) ≡ true
unfolding counted
counted_low s = all_filter counts entry_low (log_in s) (entries_low s)

both_low : (xs ys : List LogEntry) → list_all entry_low xs ≡ true → list_all entry_low ys ≡ true → list_all entry_low (xs ++ ys) ≡ true
both_low [] ys a b = b
both_low (e ∷ xs) ys a b = let parts = and_parts (entry_low e) (list_all entry_low xs) a in and_from (entry_low e) (list_all entry_low (xs ++ ys)) parts.0 (both_low xs ys parts.1 b)

-- tokens by their numbers
among : (ns : List ℕ) (u : Token) → lists (tokens_of ns) u ≡ true → (n : ℕ) × (stands_in ns n ≡ true) × (token_of n ≡ u)
among [] u there = absurd cc
among (n ∷ ns) u there = elim (or_cases (is_token (token_of n) u) (lists (tokens_of ns) u) there) [
  | inl here ↦ (n, or_left (n == n) (stands_in ns n) (grind (arith, nat_tests)), same_is (token_of n) u here)
  | inr behind ↦ let more = among ns u behind in (more.0, or_right (n == more.0) (stands_in ns more.0) more.1, more.2)
]

token_among : (ns : List ℕ) (n : ℕ) → stands_in ns n ≡ true → lists (tokens_of ns) (token_of n) ≡ true
token_among [] n there = absurd cc
token_among (m ∷ ns) n there = elim (or_cases (m == n) (stands_in ns n) there) [
  | inl here ↦ let is : m ≡ n = grind (arith, nat_tests, here) in or_left (is_token (token_of m) (token_of n)) (lists (tokens_of ns) (token_of n)) (rw is (self (token_of n)))
  | inr behind ↦ or_right (is_token (token_of m) (token_of n)) (lists (tokens_of ns) (token_of n)) (token_among ns n behind)
]

same_bool : (a b : Bool) → (a ≡ true → b ≡ true) → (b ≡ true → a ≡ true) → a ≡ b
same_bool true b to back = sym (to refl)
same_bool false true to back = back refl
same_bool false false to back = refl

own_number : (c : Chain) (s : Source) (u : Token) (numbers : List ℕ) → Lands c s → is_in_map s u ≡ true → (stands_in (map number_of (listed s)) (number_of u) ≡ true → stands_in numbers (number_of u) ≡ true) → lists (tokens_of numbers) u ≡ true
own_number c s u numbers lands there stands =
    let n = stands (number_there (listed s) u there) in
    subst (λ (t : Token). lists (tokens_of numbers) t ≡ true) (token_back u (held c s u lands there).small) (token_among numbers (number_of u) n)

tokens_same : (h : History) (x : Both) (numbers : List ℕ) (u : Token) → AreLast h x → AreOfEither x.first x.second numbers → lists (tokens_of numbers) u ≡ is_in_either x.first x.second u
tokens_same h x numbers u are tokens = same_bool (lists (tokens_of numbers) u) (is_in_either x.first x.second u)
    (λ there. let n = among numbers u there in subst (λ (t : Token). is_in_either x.first x.second t ≡ true) n.2 (number_lists h x numbers n.0 are tokens n.1))
    (λ either. elim (or_cases (is_in_map x.first u) (is_in_map x.second u) either) [
      | inl a ↦ own_number x.chain x.first u numbers are.first.lands a (λ e. tokens.each (number_of u) ∙ or_left _ (stands_in (map number_of (listed x.second)) (number_of u)) e)
      | inr b ↦ own_number (extended x.chain x.first) x.second u numbers are.second.lands b (λ e. tokens.each (number_of u) ∙ or_right (stands_in (map number_of (listed x.first)) (number_of u)) _ e)
    ])

-- by what the numbers are read
reading_by : List Counted → List Region → (ℕ → ℕ) → Reading
reading_by heaps loaded count = record {
  text = joined_text heaps;
  blob = joined_blob heaps;
  guid = joined_guid heaps;
  count = count;
  code = body_loaded loaded (joined_user heaps);
  field = λ row. [];
}

reading_own : (c : Chain) (s : Source) → reading_after c s ≡ reading_by (heaps_after c s) s.loaded (rows_with c (listed s))
unfolding reading_after reading_by
reading_own c s = refl

reading_both : (c : Chain) (a b : Source) → reading_by (heaps_with_merged c a b) (loaded_code (il_merged a b)) (rows_before (after_both c a b)) ≡ reading_merged c a b
unfolding reading_by
reading_both c a b = refl

-- what was read has the heaps, the code and the tokens
record IsRead (x : Both) (numbers : List ℕ) (rows : List (List (List ℕ))) (s : Source) : Type 0 where
  read : IsDeltaReadAs (heaps_merged x.chain x.first x.second) rows (il_merged x.first x.second) s
  listed_is : listed s ≡ tokens_of numbers
  counts : rows_with x.chain (listed s) ≡ rows_before (chain_of_both x)

same_reading : (x : Both) (numbers : List ℕ) (rows : List (List (List ℕ))) (s : Source) → IsRead x numbers rows s → reading_after x.chain s ≡ reading_merged x.chain x.first x.second
same_reading x numbers rows s is =
    reading_own x.chain s
    ∙ ap (λ (h : Counted). reading_by (x.chain.heaps ++ h ∷ []) s.loaded (rows_with x.chain (listed s))) is.read.heaps
    ∙ ap (λ l. reading_by (heaps_with_merged x.chain x.first x.second) l (rows_with x.chain (listed s))) is.read.loaded
    ∙ ap (reading_by (heaps_with_merged x.chain x.first x.second) (loaded_code (il_merged x.first x.second))) is.counts
    ∙ reading_both x.chain x.first x.second

-- a cell goes by the row's table alone
same_cell : (c : Chain) (a b : Source) (u v : Token) (i : ℕ) (column : Column) (n : ℕ) → v.table ≡ u.table → cell_with (reading_merged c a b) v i column n ≡ cell_with (reading_merged c a b) u i column n
unfolding cell_with
same_cell c a b u v i column n same = rw same refl

-- a column with cells is there
column_there : (table i : ℕ) (k : Kind) → kind_in table i ≡ Some k → (column : Column) × (column_in table i ≡ Some column)
unfolding columns_in
column_there table i k kind = by (column_in table i) refl
  where
    first : (t : ℕ) (column : Column) → column_in t 0 ≡ Some column → (table == t && i == 0) ≡ true → column_in table i ≡ None → ⊥
    first t column at is none =
        let parts = and_parts (table == t) (i == 0) is in
        let one : table ≡ t = eqb-true table t parts.0 in
        let two : i ≡ 0 = eqb-true i 0 parts.1 in
        let bad : None ≡ Some column = sym none ∙ ap (λ n. column_in n i) one ∙ ap (column_in t) two ∙ at in cc

    none_at : (b d : Bool) → is_body table i ≡ b → is_field table i ≡ d → column_in table i ≡ None → ⊥
    none_at true d body_is field_is none = first tables.method_def Num32 refl body_is none
    none_at false true body_is field_is none = first tables.field_rva Num32 refl field_is none
    none_at false false body_is field_is none = let bad : None ≡ Some k = sym (rw (body_is, field_is, none) refl) ∙ kind in cc

    by : (o : Option Column) → column_in table i ≡ o → (column : Column) × (column_in table i ≡ Some column)
    by (Some column) is = (column, is)
    by None is = absurd (none_at (is_body table i) (is_field table i) refl refl is)

-- the row of a token
row_at : (x : Both) (tokens : List Token) (rows : List (List ℕ)) (j : ℕ) (u : Token) → AreRowsHeld x tokens rows → slice_get tokens j ≡ Some u
    → (r : List ℕ) × (slice_get rows j ≡ Some r) × RowHeld x.chain x.first x.second u r
unfolding AreRowsHeld
row_at x [] [] j u held at = absurd cc
row_at x (t ∷ tokens) (r ∷ rows) zero u held at = let is : t ≡ u = cc in (r, refl, subst (λ (v : Token). RowHeld x.chain x.first x.second v r) is held.0)
row_at x (t ∷ tokens) (r ∷ rows) (suc j) u held at = row_at x tokens rows j u held.1 at
row_at x [] (r ∷ rows) j u held at = absurd held
row_at x (t ∷ tokens) [] j u held at = absurd held

low_index : {A : Type 0} (xs : List A) (i : ℕ) (y : A) → slice_get xs i ≡ Some y → i < length xs
low_index [] i y at = absurd cc
low_index (z ∷ xs) zero y at = omega arith
low_index (z ∷ xs) (suc i) y at = omega (arith, low_index xs i y at)

placed : (s : Source) (u : Token) → is_in_map s u ≡ true → (k : ℕ) × (place_in (listed s) u ≡ Some k)
placed s u there = by (place_in (listed s) u) refl
  where
    by : (o : Option ℕ) → place_in (listed s) u ≡ o → (k : ℕ) × (place_in (listed s) u ≡ Some k)
    by (Some k) is = (k, is)
    by None is = let bad : true ≡ false = sym there ∙ sym (place_any s u) ∙ ap (λ (o : Option ℕ). is_some o) is in absurd cc

-- its numbers are those that were written
record Found (x : Both) (s : Source) (u : Token) : Type 0 where
  numbers : List ℕ
  held : RowHeld x.chain x.first x.second u numbers
  raw : (i n : ℕ) → slice_get numbers i ≡ Some n → raw_in s (own_row s u) i ≡ n

found : (x : Both) (numbers : List ℕ) (rows : List (List (List ℕ))) (s : Source) (u : Token) → IsRead x numbers rows s → AreBothTables x numbers rows → has_tokens u.table ≡ true → is_in_map s u ≡ true → Found x s u
found x numbers rows s u is held has there =
    let p = placed s u there in
    let place = place_token (listed s) u p.0 p.1 in
    let at : slice_get (of_table u.table (tokens_of numbers)) (p.0 - 1) ≡ Some u = ap (λ ts. slice_get (of_table u.table ts) (p.0 - 1)) (sym is.listed_is) ∙ place.1 in
    let r = row_at x (of_table u.table (tokens_of numbers)) (rows_at rows u.table) (p.0 - 1) u (held.listed u.table has) at in
    let e : p.0 - 1 + 1 ≡ p.0 = let low = place.0 in omega (arith, low) in
    let own : nth_row u.table (p.0 - 1) ≡ own_row s u = ap (λ n. record { table = u.table; row = n }) e ∙ ap (λ (o : Option ℕ). record { table = u.table; row = unwrap_or o 0 }) (sym p.1) in
    record {
      numbers = r.0;
      held = r.2;
      raw = λ i n get. ap (λ (t : Token). raw_in s t i) (sym own) ∙ is.read.numbers u.table (p.0 - 1) i r.0 n r.1 get;
    }

body_says : (x : Both) (numbers : List ℕ) (rows : List (List (List ℕ))) (s : Source) (u : Token) → IsRead x numbers rows s → Found x s u → (u.table == tables.method_def) ≡ true
    → (raw_in s (own_row s u) columns.method_def_rva ≡ 0)
    ⊎ (code_is_good (rows_before (chain_of_both x)) (joined_user (x.chain.heaps ++ s.heaps ∷ [])) (code_loaded s.loaded (raw_in s (own_row s u) columns.method_def_rva)) ≡ true)
unfolding columns_in
body_says x numbers rows s u is f method =
    let six : u.table ≡ tables.method_def = eqb-true u.table tables.method_def method in
    let first : column_in u.table 0 ≡ Some Num32 = rw six refl in
    let own : is_body u.table 0 ≡ true = rw six refl in
    let low : 0 < length f.numbers = let l = low_index (columns_in u.table) 0 Num32 first in let m = f.held.count in omega (arith, l, m) in
    let n : ℕ = slice_index f.numbers 0 in
    let get : slice_get f.numbers 0 ≡ Some n = get_within f.numbers 0 low in
    let raw : raw_in s (own_row s u) 0 ≡ n = f.raw 0 n get in
    elim ((f.held.each 0 Num32 n first get).held.body own) [
      | inl none ↦ inl (raw ∙ none)
      | inr good ↦ inr (
          ap (λ k. code_is_good (rows_before (chain_of_both x)) (joined_user (x.chain.heaps ++ s.heaps ∷ [])) (code_loaded s.loaded k)) raw
          ∙ ap (λ l. code_is_good (rows_before (chain_of_both x)) (joined_user (x.chain.heaps ++ s.heaps ∷ [])) (code_loaded l n)) is.read.loaded
          ∙ ap (λ (h : Counted). code_is_good (rows_before (chain_of_both x)) (joined_user (x.chain.heaps ++ h ∷ [])) (code_loaded (loaded_code (il_merged x.first x.second)) n)) is.read.heaps
          ∙ good)
    ]

says_row : (x : Both) (numbers : List ℕ) (rows : List (List (List ℕ))) (s : Source) (u : Token) → IsRead x numbers rows s → AreBothTables x numbers rows → has_tokens u.table ≡ true → is_in_map s u ≡ true
    → SaysRowMerged x.chain x.first x.second s u
unfolding cell_after columns_in
says_row x numbers rows s u is held has there =
    let f = found x numbers rows s u is held has there in
    let cell : (i : ℕ) (k : Kind) → kind_in u.table i ≡ Some k → cell_after x.chain s (own_row s u) i ≡ cell_of (chain_of_both x).plain u i =
    λ i k kind.
    let column = column_there u.table i k kind in
    let low : i < length f.numbers = let l = low_index (columns_in u.table) i column.0 column.1 in let m = f.held.count in omega (arith, l, m) in
    let get : slice_get f.numbers i ≡ Some (slice_index f.numbers i) = get_within f.numbers i low in
    ap (option_and_then (λ (d : Column). cell_with (reading_after x.chain s) (own_row s u) i d (raw_in s (own_row s u) i))) column.1
    ∙ ap (λ n. cell_with (reading_after x.chain s) (own_row s u) i column.0 n) (f.raw i (slice_index f.numbers i) get)
    ∙ ap (λ (r : Reading). cell_with r (own_row s u) i column.0 (slice_index f.numbers i)) (same_reading x numbers rows s is)
    ∙ same_cell x.chain x.first x.second u (own_row s u) i column.0 (slice_index f.numbers i) refl
    ∙ (f.held.each i column.0 (slice_index f.numbers i) column.1 get).held.says k kind in
    record { cells = cell; body = λ method. body_says x numbers rows s u is f method }

-- its numbers are those of both
are_of_both : (x : Both) (numbers : List ℕ) (rows : List (List (List ℕ))) (s : Source) (u : Token) (i : ℕ) (column : Column) → IsRead x numbers rows s
    → AreBothTables x numbers rows → has_tokens u.table ≡ true → is_in_map s u ≡ true → column_in u.table i ≡ Some column
    → raw_in s (own_row s u) i ≡ number_of_both x.chain x.first x.second u i column
are_of_both x numbers rows s u i column is held has there at =
    let f = found x numbers rows s u is held has there in
    let low : i < length f.numbers = let l = low_index (columns_in u.table) i column at in let m = f.held.count in omega (arith, l, m) in
    let get : slice_get f.numbers i ≡ Some (slice_index f.numbers i) = get_within f.numbers i low in
    f.raw i (slice_index f.numbers i) get ∙ (f.held.each i column (slice_index f.numbers i) at get).moved

-- the Module row
module_number : (x : Both) (rows : List (List (List ℕ))) (s : Source) (row : List ℕ) (i : ℕ) → IsDeltaReadAs (heaps_merged x.chain x.first x.second) rows (il_merged x.first x.second) s → AreRows rows
    → rows_at rows tables.«module» ≡ row ∷ [] → i < 5 → raw_in s module_token i ≡ slice_index row i
unfolding columns_in
module_number x rows s row i read are single low =
    let all : list_all (has_cells (columns_in 0)) (row ∷ []) ≡ true = rw single at (are.cells 0) in
    let five : length row ≡ 5 = eqb-true (length row) 5 (and_parts (has_cells (columns_in 0) row) true all).0 in
    let get : slice_get row i ≡ Some (slice_index row i) = get_within row i (omega (arith, five, low)) in
    read.numbers 0 0 i row (slice_index row i) (ap (λ rs. slice_get rs 0) single) get

own_is : (x : Both) (rows : List (List (List ℕ))) (s : Source) (i n : ℕ) → IsDeltaReadAs (heaps_merged x.chain x.first x.second) rows (il_merged x.first x.second) s → raw_in s module_token i ≡ n
    → own_guid x.chain s i ≡ unwrap_or (joined_guid (heaps_with_merged x.chain x.first x.second) n) nil_guid
unfolding own_guid
own_is x rows s i n read raw =
    ap (λ k. unwrap_or (joined_guid (heaps_after x.chain s) k) nil_guid) raw
    ∙ ap (λ (h : Counted). unwrap_or (joined_guid (x.chain.heaps ++ h ∷ []) n) nil_guid) read.heaps

counted_put : (x : Both) → that_count (heaps_put x) ≡ heaps_merged x.chain x.first x.second
unfolding heaps_put heaps_merged
counted_put x = refl

counts_at : (c : Chain) (s : Source) (many : ℕ → ℕ) → ((t : ℕ) → rows_before c t + inserts c (listed s) t ≡ many t) → (t : ℕ) → rows_with c (listed s) t ≡ many t
unfolding rows_with
counts_at c s many are t = are t

counts_in : (h : History) (x : Both) (numbers : List ℕ) (rows : List (List (List ℕ))) (s : Source) → AreLast h x → AreOfEither x.first x.second numbers → AreBothTables x numbers rows
    → IsDeltaReadAs (heaps_merged x.chain x.first x.second) rows (il_merged x.first x.second) s → (table : ℕ) → has_tokens table ≡ true → rows_of s.layout table ≡ length (of_table table (tokens_of numbers))
counts_in h x numbers rows s are tokens held read table has = elim (cases_lt table 64) [
  | inl low ↦ read.counts table low ∙ as_many x (of_table table (tokens_of numbers)) (rows_at rows table) (held.listed table has)
  | inr past ↦ read.past table past ∙ sym (none_in table (tokens_of numbers) (omega (arith, past)) (tables_low h x numbers are tokens))
]

-- all together
says_all : (h : History) (x : Both) (numbers : List ℕ) (rows : List (List (List ℕ))) (s : Source) → AreLast h x → IsShallow (chain_of_both x).plain → AreOfEither x.first x.second numbers → AreBothTables x numbers rows
    → AreRows rows → IsDeltaReadAs (heaps_merged x.chain x.first x.second) rows (il_merged x.first x.second) s
    → SaysMerged x.chain x.first x.second s × HasNumbersOfBoth x.chain x.first x.second s
unfolding listed
says_all h x numbers rows s are_last shallow tokens held are read =
    let c = x.chain in
    let heaps = heaps_merged c x.first x.second in
    let il = il_merged x.first x.second in
    let low : list_all is_low (tokens_of numbers) ≡ true = all_tokens is_low numbers (λ n there. row_low n) in
    let map_is : map_in s ≡ tokens_of numbers = map_says heaps rows il s (tokens_of numbers) read (held.map_ ∙ map_rows numbers) low in
    let kept : list_all (λ (t : Token). not (is_module t)) (tokens_of numbers) ≡ true =
    all_tokens (λ (t : Token). not (is_module t)) numbers (λ n there. not_module (token_of n) (token_table h x (token_of n) are_last (number_lists h x numbers n are_last tokens there)).has) in
    let listed_is : listed s ≡ tokens_of numbers = ap (filter (λ (t : Token). not (is_module t))) map_is ∙ all_kept (λ (t : Token). not (is_module t)) (tokens_of numbers) kept in
    let same : (u : Token) → is_in_map s u ≡ is_in_either x.first x.second u = λ u. ap (λ ts. lists ts u) listed_is ∙ tokens_same h x numbers u are_last tokens in
    let up : IsStrictlyIncreasing (map number_of (listed s)) = subst IsStrictlyIncreasing (sym (ap (map number_of) listed_is ∙ numbers_are numbers)) tokens.rises in
    let order = order_of c x.first x.second s (may_merge h x are_last shallow) up same in
    let is : IsRead x numbers rows s = record { read = read; listed_is = listed_is; counts = λ i t. counts_at c s (rows_before (chain_of_both x)) order.rows t i } in
    let row = held.single.0 in
    let there = held.single.1.0 in
    let module_ = held.single.1.1 in
    let table_of : (u : Token) → is_in_map s u ≡ true → has_tokens u.table ≡ true = λ u listed_u. (token_table h x u are_last (sym (same u) ∙ listed_u)).has in (
      record {
        generation = module_number x rows s row 0 read are there (omega arith) ∙ module_.generation;
        mvid = own_is x rows s 2 (slice_index row 2) read (module_number x rows s row 2 read are there (omega arith)) ∙ module_.mvid;
        base = own_is x rows s 4 (slice_index row 4) read (module_number x rows s row 4 read are there (omega arith)) ∙ module_.base;
        enc_id = own_is x rows s 3 (slice_index row 3) read (module_number x rows s row 3 read are there (omega arith)) ∙ module_.enc_id;
        heaps = read.heaps;
        log = log_says heaps rows il s (counted (log_in x.first) ++ counted (log_in x.second)) read held.log
            (both_low (counted (log_in x.first)) (counted (log_in x.second)) (counted_low x.first) (counted_low x.second));
        rises = up;
        tokens = same;
        counts = λ table has. counts_in h x numbers rows s are_last tokens held read table has ∙ ap (λ ts. length (of_table table ts)) (sym listed_is);
        rows = λ u listed_u. says_row x numbers rows s u is held (table_of u listed_u) listed_u;
      },
      λ u i column listed_u at. are_of_both x numbers rows s u i column is held (table_of u listed_u) listed_u at,
    )

pub metadata_is_read : MetadataIsRead
metadata_is_read h x bytes are_last shallow m =
    let one : count_at m.rows 0 ≡ 1 = ap (λ rs. length rs) m.held.single.1.0 in
    let r = counted_is_read (heaps_put x) m.rows (il_merged x.first x.second) m.are m.fit one (λ t past. past_none h x m.numbers m.rows t are_last m.tokens m.held past) m.size in
    let read = subst (λ (k : Counted). IsDeltaReadAs k m.rows (il_merged x.first x.second) r.0) (counted_put x) r.2 in
    let all = says_all h x m.numbers m.rows r.0 are_last shallow m.tokens m.held m.are read in
    record { source = r.0; read = ap (λ b. delta_of b (il_merged x.first x.second)) m.root ∙ r.1; says = all.0; numbers = all.1 }
