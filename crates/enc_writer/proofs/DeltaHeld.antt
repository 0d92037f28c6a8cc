-- The rows that are written, with the heaps and the code, hold what a list states, fit, and are read so.
use Rattle.std.proofs.Common.{◌≡◌, ℕ, suc, ◌<◌, ◌≤◌, Bool, true, false, List, [], ◌∷◌, length, refl, sym, ap, ◌∙◌, subst, inl, inr, arith}
use Rattle.std.specs.Prelude.{◌^◌, ◌||◌, ◌==◌, not, nat_lt}
use Rattle.std.specs.List.{list_all}
use Rattle.std.proofs.lemmas.Bool.{and_parts, cases_lt}
use Rattle.std.proofs.lemmas.Bool.Decides.{nat_tests}
use Rattle.std.proofs.lemmas.List.{length-map}
use Rattle.enc_base.specs.Token.{nth_row}
use Rattle.enc_meta.specs.BuiltLaws.{IsGood, heaps_joined}
use Rattle.enc_plain.specs.Chain.{Chain}
use Rattle.enc_plain.specs.Sound.{number_fits}
use Rattle.enc_rows.specs.Written.{rows_at, count_at, fits, counts_of, has_cells, is_word, index_fits, row_indices_fit, AreRows, IndicesFit}
use Rattle.enc_schema.specs.Schema.{columns_in}
use Rattle.enc_base.specs.Tables as tables
use Rattle.enc_schema.specs.Widths.{index_width, coded_width}
use Rattle.enc_schema.specs.declared.column.Column.{Column}
use Rattle.enc_schema.specs.declared.column.Column.TheVariants.{Num8, Num16, Num32, Text, Guid, Blob, Index, Coded, Run}
use Rattle.enc_edit_list.specs.declared.edit.EditList.{EditList}
use Rattle.enc_rules.specs.Listed.{count_after}
use Rattle.enc_list_delta.specs.Delta.{is_edited, tokens_written, map_written}
use Rattle.enc_list_delta.specs.Holds.{MayFollow, heaps_written, SayRows, token_numbers, is_listed_table, HoldDelta}
use Rattle.enc_list_delta.proofs.TokensAbout.{stands_after}
use Rattle.enc_list_delta.proofs.TokensUnbroken.{nothing_breaks}
use Rattle.enc_list_delta.proofs.TokensWritten.{none_passing}
use Rattle.enc_writer.specs.Writing.{row_fits_wide, table_fits_wide, AreRowsWritten}
use Rattle.enc_writer.proofs.RootSize.{HasRows, many_say}

-- tables from the 64th on have no rows
none_written : (c : Chain) (l : EditList) (t : ℕ) → MayFollow c l → 64 ≤ t → tokens_written c l.edits t ≡ []
unfolding tokens_written
none_written c l t may high = none_passing (is_edited c.plain l.edits) t (count_after c l.edits t) (λ k low. none k)
  where
    none : (k : ℕ) → is_edited c.plain l.edits (nth_row t k) ≡ false
    none k = by (is_edited c.plain l.edits (nth_row t k)) refl
      where
        by : (b : Bool) → is_edited c.plain l.edits (nth_row t k) ≡ b → is_edited c.plain l.edits (nth_row t k) ≡ false
        by true h = let s = stands_after c l (nth_row t k) (nothing_breaks c l may) h in let small : t < 0x2D = s.small in absurd (omega (arith, small, high))
        by false h = h

-- the rows of each listed table
table_says : (c : Chain) (l : EditList) (il : List ℕ) (rows : List (List (List ℕ))) (t : ℕ) → MayFollow c l → AreRowsWritten c l il rows → is_listed_table t ≡ true
    → SayRows c l (heaps_joined c.heaps (heaps_written c l)) il (tokens_written c l.edits t) (rows_at rows t)
unfolding SayRows
table_says c l il rows t may w listed = elim (cases_lt t 64) [
  | inl low ↦ (w.listed t low listed).say
  | inr high ↦
      let past : nat_lt t 64 ≡ false = grind (arith, nat_tests, high) in
      rw (w.behind t past, none_written c l t may high) _
]

pub delta_held : (c : Chain) (l : EditList) (il : List ℕ) (rows : List (List (List ℕ))) → MayFollow c l → IsGood (heaps_written c l) → AreRows rows → IndicesFit rows true → AreRowsWritten c l il rows → HoldDelta c l il rows
delta_held c l il rows may good are fit w = record {
  good = good;
  numbers = are;
  fit = fit;
  single = (w.single.numbers, w.single.row, w.single.says);
  log = w.log;
  map_ = w.map_;
  others = λ t listed. table_says c l il rows t may w listed;
}

-- the numbers of EncLog and EncMap have four bytes
abbrev is_word_column : Column → Bool
is_word_column Num32 = true
is_word_column _ = false

word_fits : (d : Column) (n : ℕ) → is_word_column d ≡ true → nat_lt n (2 ^ 32) ≡ true → number_fits d n ≡ true
word_fits Num32 n wide word = word
word_fits Num8 n wide word = absurd cc
word_fits Num16 n wide word = absurd cc
word_fits Text n wide word = absurd cc
word_fits Guid n wide word = absurd cc
word_fits Blob n wide word = absurd cc
word_fits (Index t) n wide word = absurd cc
word_fits (Coded k) n wide word = absurd cc
word_fits (Run t) n wide word = absurd cc

words_fit : (columns : List Column) (numbers : List ℕ) → list_all is_word_column columns ≡ true → list_all is_word numbers ≡ true → row_fits_wide columns numbers ≡ true
unfolding is_word
words_fit [] numbers wide words = refl
words_fit (d ∷ columns) [] wide words = refl
words_fit (d ∷ columns) (n ∷ numbers) wide words =
    let w = and_parts (is_word_column d) (list_all is_word_column columns) wide in
    let v = and_parts (nat_lt n (2 ^ 32)) (list_all is_word numbers) words in
    rw (word_fits d n w.0 v.0) (words_fit columns numbers w.1 v.1)

all_words_fit : (columns : List Column) (rows : List (List ℕ)) → list_all is_word_column columns ≡ true → list_all (list_all is_word) rows ≡ true → list_all (row_fits_wide columns) rows ≡ true
all_words_fit columns [] wide words = refl
all_words_fit columns (r ∷ rows) wide words =
    let v = and_parts (list_all is_word r) (list_all (list_all is_word) rows) words in
    rw (words_fit columns r wide v.0) (all_words_fit columns rows wide v.1)

log_wide : list_all is_word_column (columns_in tables.enc_log) ≡ true
unfolding columns_in
log_wide = refl

map_wide : list_all is_word_column (columns_in tables.enc_map) ≡ true
unfolding columns_in
map_wide = refl

-- so all rows fit
unlisted_is : (t : ℕ) (P : ℕ → Type 0) → is_listed_table t ≡ false → P tables.«module» → P tables.enc_log → P tables.enc_map → P t
unlisted_is t P un module_ log map_ = by (t == tables.«module») (t == tables.enc_log) (t == tables.enc_map) refl refl refl un
  where
    by : (a b d : Bool) → (t == tables.«module») ≡ a → (t == tables.enc_log) ≡ b → (t == tables.enc_map) ≡ d → not (a || b || d) ≡ false → P t
    by true b d x y z h = let e : t ≡ tables.«module» = grind (arith, nat_tests, x) in subst P (sym e) module_
    by false true d x y z h = let e : t ≡ tables.enc_log = grind (arith, nat_tests, y) in subst P (sym e) log
    by false false true x y z h = let e : t ≡ tables.enc_map = grind (arith, nat_tests, z) in subst P (sym e) map_
    by false false false x y z h = absurd cc

all_fit : (c : Chain) (l : EditList) (il : List ℕ) (rows : List (List (List ℕ))) (t : ℕ) → AreRows rows → AreRowsWritten c l il rows → table_fits_wide rows t ≡ true
all_fit c l il rows t are w = by (is_listed_table t) refl
  where
    by : (b : Bool) → is_listed_table t ≡ b → table_fits_wide rows t ≡ true
    by true listed = elim (cases_lt t 64) [
      | inl low ↦ (w.listed t low listed).fit
      | inr high ↦ let past : nat_lt t 64 ≡ false = grind (arith, nat_tests, high) in rw (w.behind t past) refl
    ]
    by false un =
        unlisted_is t (λ k. table_fits_wide rows k ≡ true) un w.single.fit
        (all_words_fit (columns_in tables.enc_log) (rows_at rows tables.enc_log) log_wide (are.words tables.enc_log))
        (all_words_fit (columns_in tables.enc_map) (rows_at rows tables.enc_map) map_wide (are.words tables.enc_map))

column_fits : (counts : List ℕ) (d : Column) (n : ℕ) → number_fits d n ≡ true → index_fits (record { counts = counts; jtd = true; flags = 0 }) d n ≡ true
unfolding index_fits fits index_width coded_width
column_fits counts Num8 n h = h
column_fits counts Num16 n h = h
column_fits counts Num32 n h = h
column_fits counts Text n h = refl
column_fits counts Guid n h = refl
column_fits counts Blob n h = refl
column_fits counts (Index t) n h = h
column_fits counts (Coded k) n h = h
column_fits counts (Run t) n h = h

same_length : (m n : ℕ) → (suc m == suc n) ≡ true → (m == n) ≡ true
same_length m n h = grind (arith, nat_tests, h)

not_same : (n : ℕ) → (0 == suc n) ≡ true → ⊥
not_same n h = grind (arith, nat_tests, h)

same_not : (n : ℕ) → (suc n == 0) ≡ true → ⊥
same_not n h = grind (arith, nat_tests, h)

row_fits : (counts : List ℕ) (columns : List Column) (numbers : List ℕ) → has_cells columns numbers ≡ true → row_fits_wide columns numbers ≡ true
    → row_indices_fit (record { counts = counts; jtd = true; flags = 0 }) columns numbers ≡ true
unfolding row_indices_fit
row_fits counts [] [] has h = refl
row_fits counts (d ∷ columns) [] has h = absurd (not_same (length columns) has)
row_fits counts [] (n ∷ numbers) has h = absurd (same_not (length numbers) has)
row_fits counts (d ∷ columns) (n ∷ numbers) has h =
    let p = and_parts (number_fits d n) (row_fits_wide columns numbers) h in
    rw (column_fits counts d n p.0) (row_fits counts columns numbers (same_length (length numbers) (length columns) has) p.1)

rows_fit : (counts : List ℕ) (columns : List Column) (rows : List (List ℕ)) → list_all (has_cells columns) rows ≡ true → list_all (row_fits_wide columns) rows ≡ true
    → list_all (row_indices_fit (record { counts = counts; jtd = true; flags = 0 }) columns) rows ≡ true
rows_fit counts columns [] has h = refl
rows_fit counts columns (r ∷ rows) has h =
    let a = and_parts (has_cells columns r) (list_all (has_cells columns) rows) has in
    let b = and_parts (row_fits_wide columns r) (list_all (row_fits_wide columns) rows) h in
    rw (row_fits counts columns r a.0 b.0) (rows_fit counts columns rows a.1 b.1)

pub indices_fit : (c : Chain) (l : EditList) (il : List ℕ) (rows : List (List (List ℕ))) → AreRows rows → AreRowsWritten c l il rows → IndicesFit rows true
indices_fit c l il rows are w = record { each = λ t. rows_fit (counts_of rows) (columns_in t) (rows_at rows t) (are.cells t) (all_fit c l il rows t are w) }

-- and are few
pub rows_are_few : (c : Chain) (l : EditList) (il : List ℕ) (rows : List (List (List ℕ))) → MayFollow c l → AreRows rows → AreRowsWritten c l il rows → HasRows c l rows
rows_are_few c l il rows may are w =
    let many : count_at rows tables.enc_map ≡ length (map_written c l.edits) = ap length w.map_ ∙ length-map (map_written c l.edits) token_numbers in
    let few = are.few tables.enc_map in
    record {
      are = are;
      listed = λ t listed. many_say c l (heaps_joined c.heaps (heaps_written c l)) il (tokens_written c l.edits t) (rows_at rows t) (table_says c l il rows t may w listed);
      few = omega (arith, many, few);
    }
