-- Which numbers of a row need four bytes in a heap's columns, and that all fit with their heap bits.
use Rattle.std.proofs.Common.{◌≡◌, ℕ, ◌+◌, ◌*◌, ◌^◌, ◌<◌, ◌≤◌, Bool, true, false, inl, inr, List, [], ◌∷◌, length, drop, refl, sym, ◌∙◌, arith}
use Rattle.std.specs.Prelude.{Some, slice_get, ◌||◌, ◌==◌, nat_lt, if◌then◌else◌}
use Rattle.std.specs.List.{list_all, list_any}
use Rattle.std.proofs.lemmas.Bool.{and_parts, and_from, ltb-true, cases_lt}
use Rattle.std.proofs.lemmas.Bool.Decides.{nat_tests}
use Rattle.std.proofs.lemmas.Option.{slice_get_past}
use Rattle.std.proofs.lemmas.List.{drop_all}
use Rattle.enc_schema.specs.declared.column.Column.{Column}
use Rattle.enc_schema.specs.declared.column.Column.TheVariants.{Num8, Num16, Num32, Text, Guid, Blob, Index, Coded, Run}
use Rattle.enc_schema.specs.Schema.{columns_in}
use Rattle.enc_schema.specs.Widths.{Shape, has_bit, heap_width, index_width, coded_width}
use Rattle.enc_rows.specs.Sums.{below}
use Rattle.enc_rows.proofs.Below.{any_true}
use Rattle.enc_rows.proofs.Cells.{from_place}
use Rattle.enc_rows.specs.Written.{rows_at, counts_of, shape_of, fits, row_fits, is_word, heap_bit, cell_is_wide, row_is_wide, is_wide, heap_bits, index_fits, row_indices_fit, HeapBitsFit}

-- from a column on: by its own number, or by those behind it
pub wide_from : (bit : ℕ) (columns : List Column) (cells : List ℕ) (i : ℕ) (c : Column) (n : ℕ) → slice_get columns i ≡ Some c → slice_get cells i ≡ Some n → row_is_wide bit (drop i columns) (drop i cells) ≡ (cell_is_wide bit c n || row_is_wide bit (drop (i + 1) columns) (drop (i + 1) cells))
unfolding row_is_wide
wide_from bit = from_place (λ c n rest. cell_is_wide bit c n || rest) (row_is_wide bit) (λ c n columns cells. refl)

wide_none : (bit : ℕ) → row_is_wide bit [] [] ≡ false
unfolding row_is_wide
wide_none bit = refl

-- and behind the last no number is
pub wide_end : (bit : ℕ) (columns : List Column) (cells : List ℕ) (i : ℕ) → length columns ≤ i → length cells ≤ i → row_is_wide bit (drop i columns) (drop i cells) ≡ false
wide_end bit columns cells i a b = rw (drop_all i columns a, drop_all i cells b) (wide_none bit)

-- a number that needs four bytes decides
or_true : (a b : Bool) → a ≡ true → (a || b) ≡ true
or_true true b h = refl
or_true false b h = absurd (cc)

or_false : (a b : Bool) → a ≡ false → (a || b) ≡ b
or_false true b h = absurd (cc)
or_false false b h = refl

pub wide_here : (bit : ℕ) (columns : List Column) (cells : List ℕ) (i : ℕ) (c : Column) (n : ℕ) → slice_get columns i ≡ Some c → slice_get cells i ≡ Some n → cell_is_wide bit c n ≡ true → row_is_wide bit (drop i columns) (drop i cells) ≡ true
wide_here bit columns cells i c n column cell h = wide_from bit columns cells i c n column cell ∙ or_true _ _ h

-- and one that doesn't leaves it to those behind it
pub wide_behind : (bit : ℕ) (columns : List Column) (cells : List ℕ) (i : ℕ) (c : Column) (n : ℕ) → slice_get columns i ≡ Some c → slice_get cells i ≡ Some n → cell_is_wide bit c n ≡ false → row_is_wide bit (drop i columns) (drop i cells) ≡ row_is_wide bit (drop (i + 1) columns) (drop (i + 1) cells)
wide_behind bit columns cells i c n column cell h = wide_from bit columns cells i c n column cell ∙ or_false _ _ h

-- each heap bit is set where its heap asks for it
pub bit_one : (a b c : Bool) → has_bit ((if a then 1 else 0) + (if b then 2 else 0) + (if c then 4 else 0)) 1 ≡ a
bit_one true true true = refl
bit_one true true false = refl
bit_one true false true = refl
bit_one true false false = refl
bit_one false true true = refl
bit_one false true false = refl
bit_one false false true = refl
bit_one false false false = refl

pub bit_two : (a b c : Bool) → has_bit ((if a then 1 else 0) + (if b then 2 else 0) + (if c then 4 else 0)) 2 ≡ b
bit_two true true true = refl
bit_two true true false = refl
bit_two true false true = refl
bit_two true false false = refl
bit_two false true true = refl
bit_two false true false = refl
bit_two false false true = refl
bit_two false false false = refl

pub bit_four : (a b c : Bool) → has_bit ((if a then 1 else 0) + (if b then 2 else 0) + (if c then 4 else 0)) 4 ≡ c
bit_four true true true = refl
bit_four true true false = refl
bit_four true false true = refl
bit_four true false false = refl
bit_four false true true = refl
bit_four false true false = refl
bit_four false false true = refl
bit_four false false false = refl

-- the numbers of rows, `#JTD`, and which heaps are wide
record Bits (s : Shape) (wide : ℕ → Bool) : Type 0 where
  pub one : has_bit s.flags 1 ≡ wide 1
  pub two : has_bit s.flags 2 ≡ wide 2
  pub four : has_bit s.flags 4 ≡ wide 4

word_below : (n : ℕ) → is_word n ≡ true → n < 2 ^ 32
unfolding is_word
word_below n h = ltb-true n (2 ^ 32) h

-- a number that isn't wide fits two bytes, and any number four
narrow_below : (bit : ℕ) (c : Column) (n : ℕ) → heap_bit c ≡ bit → cell_is_wide bit c n ≡ false → n < 0x10000
unfolding cell_is_wide
narrow_below bit c n is h = let e : (heap_bit c == bit) ≡ true = grind (arith, nat_tests) in grind (arith, nat_tests)

heap_fits : (s : Shape) (bit n : ℕ) (wide : Bool) → has_bit s.flags bit ≡ wide → n < 2 ^ 32 → (wide ≡ false → n < 0x10000) → nat_lt n (2 ^ (8 * heap_width s bit)) ≡ true
unfolding heap_width
heap_fits s bit n true is word narrow = rw is (grind (arith, nat_tests))
heap_fits s bit n false is word narrow = let low : n < 0x10000 = narrow refl in rw is (grind (arith, nat_tests))

-- a number fits its column with these heap bits, where it fits without them but for heaps
column_fits : (counts : List ℕ) (jtd : Bool) (flags : ℕ) (wide : ℕ → Bool) (c : Column) (n : ℕ) → Bits (record { counts = counts; jtd = jtd; flags = flags }) wide → index_fits (record { counts = counts; jtd = jtd; flags = 0 }) c n ≡ true → is_word n ≡ true → ((bit : ℕ) → wide bit ≡ false → cell_is_wide bit c n ≡ false) → fits (record { counts = counts; jtd = jtd; flags = flags }) c n ≡ true
unfolding fits index_fits index_width coded_width
column_fits counts jtd flags wide Num8 n bits h word narrow = h
column_fits counts jtd flags wide Num16 n bits h word narrow = h
column_fits counts jtd flags wide Num32 n bits h word narrow = h
column_fits counts jtd flags wide Text n bits h word narrow = heap_fits _ 1 n (wide 1) bits.one (word_below n word) (λ e. narrow_below 1 Text n refl (narrow 1 e))
column_fits counts jtd flags wide Guid n bits h word narrow = heap_fits _ 2 n (wide 2) bits.two (word_below n word) (λ e. narrow_below 2 Guid n refl (narrow 2 e))
column_fits counts jtd flags wide Blob n bits h word narrow = heap_fits _ 4 n (wide 4) bits.four (word_below n word) (λ e. narrow_below 4 Blob n refl (narrow 4 e))
column_fits counts jtd flags wide (Index t) n bits h word narrow = h
column_fits counts jtd flags wide (Coded k) n bits h word narrow = h
column_fits counts jtd flags wide (Run t) n bits h word narrow = h

-- neither of two
or_parts : (a b : Bool) → (a || b) ≡ false → (a ≡ false) × (b ≡ false)
or_parts true b h = absurd (cc)
or_parts false b h = (refl, h)

wide_parts : (bit : ℕ) (c : Column) (columns : List Column) (n : ℕ) (cells : List ℕ) → row_is_wide bit (c ∷ columns) (n ∷ cells) ≡ false → (cell_is_wide bit c n ≡ false) × (row_is_wide bit columns cells ≡ false)
unfolding row_is_wide
wide_parts bit c columns n cells h = or_parts _ _ h

-- so it is of a row
row_fits_so : (counts : List ℕ) (jtd : Bool) (flags : ℕ) (wide : ℕ → Bool) (columns : List Column) (cells : List ℕ) → Bits (record { counts = counts; jtd = jtd; flags = flags }) wide → row_indices_fit (record { counts = counts; jtd = jtd; flags = 0 }) columns cells ≡ true → list_all is_word cells ≡ true → ((bit : ℕ) → wide bit ≡ false → row_is_wide bit columns cells ≡ false) → row_fits (record { counts = counts; jtd = jtd; flags = flags }) columns cells ≡ true
unfolding row_fits row_indices_fit
row_fits_so counts jtd flags wide [] [] bits h words narrow = refl
row_fits_so counts jtd flags wide [] (n ∷ cells) bits h words narrow = absurd (cc)
row_fits_so counts jtd flags wide (c ∷ columns) [] bits h words narrow = absurd (cc)
row_fits_so counts jtd flags wide (c ∷ columns) (n ∷ cells) bits h words narrow =
    let fit = and_parts (index_fits (record { counts = counts; jtd = jtd; flags = 0 }) c n) (row_indices_fit (record { counts = counts; jtd = jtd; flags = 0 }) columns cells) h in
    let word = and_parts (is_word n) (list_all is_word cells) words in
    and_from _ _
    (column_fits counts jtd flags wide c n bits fit.0 word.0 (λ bit e. (wide_parts bit c columns n cells (narrow bit e)).0))
    (row_fits_so counts jtd flags wide columns cells bits fit.1 word.1 (λ bit e. (wide_parts bit c columns n cells (narrow bit e)).1))

any_parts : (bit : ℕ) (columns : List Column) (row : List ℕ) (rows : List (List ℕ)) → list_any (row_is_wide bit columns) (row ∷ rows) ≡ false → (row_is_wide bit columns row ≡ false) × (list_any (row_is_wide bit columns) rows ≡ false)
any_parts bit columns row rows h = or_parts (row_is_wide bit columns row) (list_any (row_is_wide bit columns) rows) h

-- and of a table
table_fits_so : (counts : List ℕ) (jtd : Bool) (flags : ℕ) (wide : ℕ → Bool) (columns : List Column) (rows : List (List ℕ)) → Bits (record { counts = counts; jtd = jtd; flags = flags }) wide → list_all (row_indices_fit (record { counts = counts; jtd = jtd; flags = 0 }) columns) rows ≡ true → list_all (list_all is_word) rows ≡ true → ((bit : ℕ) → wide bit ≡ false → list_any (row_is_wide bit columns) rows ≡ false) → list_all (row_fits (record { counts = counts; jtd = jtd; flags = flags }) columns) rows ≡ true
table_fits_so counts jtd flags wide columns [] bits h words narrow = refl
table_fits_so counts jtd flags wide columns (row ∷ rows) bits h words narrow =
    let fit = and_parts (row_indices_fit (record { counts = counts; jtd = jtd; flags = 0 }) columns row) (list_all (row_indices_fit (record { counts = counts; jtd = jtd; flags = 0 }) columns) rows) h in
    let word = and_parts (list_all is_word row) (list_all (list_all is_word) rows) words in
    and_from _ _
    (row_fits_so counts jtd flags wide columns row bits fit.0 word.0 (λ bit e. (any_parts bit columns row rows (narrow bit e)).0))
    (table_fits_so counts jtd flags wide columns rows bits fit.1 word.1 (λ bit e. (any_parts bit columns row rows (narrow bit e)).1))

bits_of : (all : List (List (List ℕ))) (jtd : Bool) → Bits (shape_of all jtd (heap_bits all)) (is_wide all)
unfolding heap_bits
bits_of all jtd = record {
  one = bit_one (is_wide all 1) (is_wide all 2) (is_wide all 4);
  two = bit_two (is_wide all 1) (is_wide all 2) (is_wide all 4);
  four = bit_four (is_wide all 1) (is_wide all 2) (is_wide all 4);
}

other_false : (p : ℕ → Bool) (n m : ℕ) (b : Bool) → p n ≡ b → n < m → list_any p (below m) ≡ false → b ≡ false
other_false p n m true e lt h = sym (any_true p n m lt e) ∙ h
other_false p n m false e lt h = refl

-- where a heap isn't wide, none of its tables is
narrow_table : (all : List (List (List ℕ))) (bit t : ℕ) → length all ≤ 64 → is_wide all bit ≡ false → list_any (row_is_wide bit (columns_in t)) (rows_at all t) ≡ false
unfolding is_wide
narrow_table all bit t few h = elim (cases_lt t 64) [
  | inl lt ↦ other_false (λ table. list_any (row_is_wide bit (columns_in table)) (rows_at all table)) t 64 _ refl lt h
  | inr past ↦ rw (slice_get_past all t (omega arith)) refl
]

pub heap_bits_fit : HeapBitsFit
heap_bits_fit all jtd rows indices = record {
  each = λ t. table_fits_so (counts_of all) jtd (heap_bits all) (is_wide all) (columns_in t) (rows_at all t) (bits_of all jtd) (indices.each t) (rows.words t) (λ bit e. narrow_table all bit t rows.tables e);
}
