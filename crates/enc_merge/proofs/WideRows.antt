-- The rows of the merged delta fit their columns, as its indices take four bytes.
use Rattle.std.proofs.Common.{◌≡◌, ℕ, zero, suc, ◌+◌, ◌<◌, Bool, true, false, List, [], ◌∷◌, length, Some, refl, sym, subst, arith}
use Rattle.std.specs.Prelude.{◌||◌, ◌==◌, not, nat_lt, slice_get, slice_index}
use Rattle.std.specs.List.{list_all}
use Rattle.std.proofs.lemmas.Bool.{and_from, and_parts, eqb-true}
use Rattle.std.proofs.lemmas.Bool.Decides.{nat_tests}
use Rattle.enc_base.specs.declared.refusal.Place.TheVariants as place
use Rattle.enc_base.specs.declared.token.Token.{Token}
use Rattle.enc_plain.specs.Chain.{Chain}
use Rattle.enc_plain.specs.Sound.{number_fits}
use Rattle.enc_rows.specs.Source.{Source}
use Rattle.enc_rows.specs.Written.{rows_at, counts_of, fits, has_cells, index_fits, is_word, row_indices_fit, AreRows, IndicesFit}
use Rattle.enc_schema.specs.Schema.{columns_in}
use Rattle.enc_base.specs.Tables as tables
use Rattle.enc_schema.specs.Widths.{Shape, index_width, coded_width}
use Rattle.enc_schema.specs.declared.column.Column.{Column}
use Rattle.enc_schema.specs.declared.column.Column.TheVariants.{Num8, Num16, Num32, Text, Guid, Blob, Index, Coded, Run}
use Rattle.enc_delta.specs.Delta.{of_table}
use Rattle.enc_delta.specs.Rules.{module_token, too_many}
use Rattle.enc_delta.proofs.Unbroken.{unbroken}
use Rattle.enc_agg.specs.Follows.{Follows}
use Rattle.enc_agg.specs.Seen.{History}
use Rattle.enc_merged_delta.specs.Held.{RowHeld}
use Rattle.enc_merged_delta.specs.Merged.{has_tokens}
use Rattle.enc_merged_delta.proofs.Silent.{first_silent}
use Rattle.enc_merge.specs.Writing.{AreLast, AreRowsHeld, AreBothTables, Both, tokens_of}

abbrev wide_shape : List ℕ → Shape
wide_shape counts = record { counts = counts; jtd = true; flags = 0 }

-- numbers of which each fits its column
each_fits : (s : Shape) (columns : List Column) (cells : List ℕ) → length cells ≡ length columns
    → ((i : ℕ) (column : Column) (n : ℕ) → slice_get columns i ≡ Some column → slice_get cells i ≡ Some n → index_fits s column n ≡ true) → row_indices_fit s columns cells ≡ true
unfolding row_indices_fit
each_fits s [] [] many each = refl
each_fits s [] (n ∷ cells) many each = absurd (omega (arith, many))
each_fits s (d ∷ columns) [] many each = absurd (omega (arith, many))
each_fits s (d ∷ columns) (n ∷ cells) many each =
    and_from (index_fits s d n) (row_indices_fit s columns cells) (each 0 d n refl refl)
    (each_fits s columns cells (omega (arith, many)) (λ i e y at get. each (suc i) e y at get))

column_fits : (counts : List ℕ) (d : Column) (n : ℕ) → number_fits d n ≡ true → index_fits (wide_shape counts) d n ≡ true
unfolding index_fits fits index_width coded_width
column_fits counts Num8 n h = h
column_fits counts Num16 n h = h
column_fits counts Num32 n h = h
column_fits counts Text n h = refl
column_fits counts Guid n h = refl
column_fits counts Blob n h = refl
column_fits counts (Index t) n h = h
column_fits counts (Coded k) n h = h
column_fits counts (Run t) n h = h

-- the rows that tokens stand for
row_fits : (x : Both) (counts : List ℕ) (u : Token) (r : List ℕ) → RowHeld x.chain x.first x.second u r → row_indices_fit (wide_shape counts) (columns_in u.table) r ≡ true
row_fits x counts u r held = each_fits (wide_shape counts) (columns_in u.table) r held.count (λ i column n at get. column_fits counts column n (held.each i column n at get).held.fit)

rows_fit : (x : Both) (counts : List ℕ) (table : ℕ) (tokens : List Token) (rows : List (List ℕ)) → list_all (λ (t : Token). t.table == table) tokens ≡ true → AreRowsHeld x tokens rows
    → list_all (row_indices_fit (wide_shape counts) (columns_in table)) rows ≡ true
unfolding AreRowsHeld
rows_fit x counts table [] [] own held = refl
rows_fit x counts table (u ∷ tokens) (r ∷ rows) own held =
    let parts = and_parts (u.table == table) (list_all (λ (t : Token). t.table == table) tokens) own in
    let same : u.table ≡ table = eqb-true u.table table parts.0 in
    let first : row_indices_fit (wide_shape counts) (columns_in table) r ≡ true = subst (λ t. row_indices_fit (wide_shape counts) (columns_in t) r ≡ true) same (row_fits x counts u r held.0) in
    and_from (row_indices_fit (wide_shape counts) (columns_in table) r) (list_all (row_indices_fit (wide_shape counts) (columns_in table)) rows) first (rows_fit x counts table tokens rows parts.1 held.1)
rows_fit x counts table [] (r ∷ rows) own held = absurd held
rows_fit x counts table (u ∷ tokens) [] own held = absurd held

own_only : (table : ℕ) (ts : List Token) → list_all (λ (t : Token). t.table == table) (of_table table ts) ≡ true
own_only table [] = refl
own_only table (t ∷ ts) = by (t.table == table) refl (own_only table ts)
  where
    by : (b : Bool) → (t.table == table) ≡ b → list_all (λ (u : Token). u.table == table) (of_table table ts) ≡ true → list_all (λ (u : Token). u.table == table) (of_table table (t ∷ ts)) ≡ true
    by true is more = rw (is, is) more
    by false is more = rw is more

-- the Module row, whose generation has two bytes
generation_low : (c : Chain) (s : Source) → Follows c s → length c.ids + 1 < 0x10000
unfolding too_many
generation_low c s follows =
    let few = (first_silent (nat_lt 65535 (length c.ids + 1)) (place.Row module_token) _ (unbroken c s follows.rules).limit).0 in
    grind (arith, nat_tests, few)

module_column : (counts : List ℕ) (i : ℕ) (column : Column) (n : ℕ) → slice_get (columns_in 0) i ≡ Some column → (i ≡ 0 → n < 0x10000) → index_fits (wide_shape counts) column n ≡ true
unfolding columns_in index_fits fits
module_column counts zero column n at low =
    let is : Num16 ≡ column = cc in
    let few : n < 0x10000 = low refl in
    let fit : nat_lt n 0x10000 ≡ true = grind (arith, nat_tests, few) in
    rw (← is) fit
module_column counts (suc zero) column n at low = let is : Text ≡ column = cc in rw (← is) refl
module_column counts (suc (suc zero)) column n at low = let is : Guid ≡ column = cc in rw (← is) refl
module_column counts (suc (suc (suc zero))) column n at low = let is : Guid ≡ column = cc in rw (← is) refl
module_column counts (suc (suc (suc (suc zero)))) column n at low = let is : Guid ≡ column = cc in rw (← is) refl
module_column counts (suc (suc (suc (suc (suc i))))) column n at low = absurd cc

got_is : (cells : List ℕ) (i n : ℕ) → slice_get cells i ≡ Some n → slice_index cells i ≡ n
got_is [] i n get = absurd cc
got_is (m ∷ cells) zero n get = cc
got_is (m ∷ cells) (suc i) n get = got_is cells i n get

module_row_fits : (counts : List ℕ) (row : List ℕ) → has_cells (columns_in 0) row ≡ true → slice_index row 0 < 0x10000 → row_indices_fit (wide_shape counts) (columns_in 0) row ≡ true
module_row_fits counts row has low =
    each_fits (wide_shape counts) (columns_in 0) row (eqb-true (length row) (length (columns_in 0)) has)
    (λ i column n at get. module_column counts i column n at (λ first. let is = got_is row i n get in let is0 : slice_index row 0 ≡ n = rw first at is in omega (arith, is0, low)))

-- the rows of EncLog and EncMap, whose columns have four bytes
abbrev is_word_column : Column → Bool
is_word_column Num32 = true
is_word_column _ = false

word_fits : (counts : List ℕ) (d : Column) (n : ℕ) → is_word_column d ≡ true → is_word n ≡ true → index_fits (wide_shape counts) d n ≡ true
unfolding index_fits fits is_word
word_fits counts Num32 n is word = word
word_fits counts Num8 n is word = absurd cc
word_fits counts Num16 n is word = absurd cc
word_fits counts Text n is word = absurd cc
word_fits counts Guid n is word = absurd cc
word_fits counts Blob n is word = absurd cc
word_fits counts (Index t) n is word = absurd cc
word_fits counts (Coded k) n is word = absurd cc
word_fits counts (Run t) n is word = absurd cc

words_fit : (counts : List ℕ) (columns : List Column) (cells : List ℕ) → list_all is_word_column columns ≡ true → has_cells columns cells ≡ true → list_all is_word cells ≡ true
    → row_indices_fit (wide_shape counts) columns cells ≡ true
unfolding row_indices_fit
words_fit counts [] [] wide has words = refl
words_fit counts [] (n ∷ cells) wide has words = let e = eqb-true (suc (length cells)) 0 has in absurd (omega (arith, e))
words_fit counts (d ∷ columns) [] wide has words = let e = eqb-true 0 (suc (length columns)) has in absurd (omega (arith, e))
words_fit counts (d ∷ columns) (n ∷ cells) wide has words =
    let w = and_parts (is_word_column d) (list_all is_word_column columns) wide in
    let v = and_parts (is_word n) (list_all is_word cells) words in
    let e = eqb-true (suc (length cells)) (suc (length columns)) has in
    let less : has_cells columns cells ≡ true = grind (arith, nat_tests, e) in
    and_from (index_fits (wide_shape counts) d n) (row_indices_fit (wide_shape counts) columns cells) (word_fits counts d n w.0 v.0) (words_fit counts columns cells w.1 less v.1)

all_words_fit : (counts : List ℕ) (columns : List Column) (rows : List (List ℕ)) → list_all is_word_column columns ≡ true → list_all (has_cells columns) rows ≡ true → list_all (list_all is_word) rows ≡ true
    → list_all (row_indices_fit (wide_shape counts) columns) rows ≡ true
all_words_fit counts columns [] wide has words = refl
all_words_fit counts columns (r ∷ rows) wide has words =
    let h = and_parts (has_cells columns r) (list_all (has_cells columns) rows) has in
    let v = and_parts (list_all is_word r) (list_all (list_all is_word) rows) words in
    and_from (row_indices_fit (wide_shape counts) columns r) (list_all (row_indices_fit (wide_shape counts) columns) rows) (words_fit counts columns r wide h.0 v.0) (all_words_fit counts columns rows wide h.1 v.1)

log_wide : list_all is_word_column (columns_in tables.enc_log) ≡ true
unfolding columns_in
log_wide = refl

map_wide : list_all is_word_column (columns_in tables.enc_map) ≡ true
unfolding columns_in
map_wide = refl

-- tables without tokens are those three
pub apart_is : (table : ℕ) (P : ℕ → Type 0) → has_tokens table ≡ false → P tables.«module» → P tables.enc_log → P tables.enc_map → P table
apart_is table P none module_ log map_ = by (table == tables.«module») (table == tables.enc_log) (table == tables.enc_map) refl refl refl none
  where
    by : (a b d : Bool) → (table == tables.«module») ≡ a → (table == tables.enc_log) ≡ b → (table == tables.enc_map) ≡ d → not (a || b || d) ≡ false → P table
    by true b d x y z h = let e : table ≡ tables.«module» = grind (arith, nat_tests, x) in subst P (sym e) module_
    by false true d x y z h = let e : table ≡ tables.enc_log = grind (arith, nat_tests, y) in subst P (sym e) log
    by false false true x y z h = let e : table ≡ tables.enc_map = grind (arith, nat_tests, z) in subst P (sym e) map_
    by false false false x y z h = absurd cc

pub tables_fit : (h : History) (x : Both) (numbers : List ℕ) (rows : List (List (List ℕ))) → AreLast h x → AreRows rows → AreBothTables x numbers rows → IndicesFit rows true
tables_fit h x numbers rows last are held = record { each = λ table. each table (has_tokens table) refl }
  where
    single : list_all (row_indices_fit (wide_shape (counts_of rows)) (columns_in tables.«module»)) (rows_at rows tables.«module») ≡ true
    single =
        let row = held.single.0 in
        let is = held.single.1.0 in
        let low : slice_index row 0 < 0x10000 = let g = generation_low x.chain x.first last.first in let e = held.single.1.1.generation in omega (arith, g, e) in
        let all : list_all (has_cells (columns_in 0)) (row ∷ []) ≡ true = rw is at (are.cells 0) in
        let has = (and_parts (has_cells (columns_in 0) row) true all).0 in
        rw is (and_from (row_indices_fit (wide_shape (counts_of rows)) (columns_in 0) row) true (module_row_fits (counts_of rows) row has low) refl)

    each : (table : ℕ) (b : Bool) → has_tokens table ≡ b → list_all (row_indices_fit (wide_shape (counts_of rows)) (columns_in table)) (rows_at rows table) ≡ true
    each table true has = rows_fit x (counts_of rows) table (of_table table (tokens_of numbers)) (rows_at rows table) (own_only table (tokens_of numbers)) (held.listed table has)
    each table false none = apart_is table (λ k. list_all (row_indices_fit (wide_shape (counts_of rows)) (columns_in k)) (rows_at rows k) ≡ true) none single
        (all_words_fit (counts_of rows) (columns_in tables.enc_log) (rows_at rows tables.enc_log) log_wide (are.cells tables.enc_log) (are.words tables.enc_log))
        (all_words_fit (counts_of rows) (columns_in tables.enc_map) (rows_at rows tables.enc_map) map_wide (are.cells tables.enc_map) (are.words tables.enc_map))
