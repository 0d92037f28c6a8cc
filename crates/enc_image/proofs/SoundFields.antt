-- The bytes of a field in a base have its size.
use Rattle.std.proofs.Common.{◌≡◌, ℕ, zero, suc, ◌+◌, ◌-◌, ◌<◌, ◌≤◌, Bool, true, false, cond, List, [], ◌∷◌, length, take, drop, Option, Some, None, refl, sym, ap, ◌∙◌, arith}
use Rattle.std.specs.Prelude.{◌==◌, ◌&&◌, ◌||◌, IsTrue, option_map, option_and_then, unwrap_or, find, nat_lt, nat_le, if◌then◌else◌}
use Rattle.std.proofs.lemmas.Bool.Decides.{nat_tests}
use Rattle.enc_base.specs.Token.{nth_row, is_token}
use Rattle.enc_base.specs.Order.{first_below}
use Rattle.enc_base.specs.declared.token.Token.{Token}
use Rattle.enc_base.proofs.First.{first_none, first_suc}
use Rattle.enc_meta.specs.Regions.{Region, region_holds, range_loaded}
use Rattle.enc_meta.proofs.EntryLengths.{length_taken, length_dropped}
use Rattle.enc_schema.specs.declared.column.Column.TheVariants.{Index}
use Rattle.enc_schema.specs.Schema.{columns_in, column_in}
use Rattle.enc_rows.specs.Layout.{rows_of}
use Rattle.enc_rows.specs.Source.{Source, raw_in}
use Rattle.enc_plain.specs.Extent.{extent_in}
use Rattle.enc_plain.specs.Module.{has_row, cells_of}
use Rattle.enc_plain.specs.Reading.{index_token}
use Rattle.enc_plain.specs.Rows.{number_at, bytes_at, token_at}
use Rattle.enc_plain.specs.Sound.{row_count, is_part, class_size_at, class_size, is_size, field_is_sound}
use Rattle.enc_plain.specs.Sound as sound
use Rattle.enc_plain.specs.declared.extent.Extent.{Extent}
use Rattle.enc_plain.specs.declared.extent.Extent.TheVariants.{Bytes, Class}
use Rattle.enc_plain.proofs.FieldExtents.{names_row, extent_row}
use Rattle.enc_image.specs.Base.{blob_or_none, layout_size, size_of_class, extent_size, data_extent, bytes_of_field, field_bytes, cells_fault, module_in}
use Rattle.enc_image.proofs.Good.{no_index_fault}
use Rattle.enc_image.proofs.Rows.{row_stands, token_is, count_there, unfaulted}
use Rattle.enc_image.proofs.Told.{row_is_there, number_is, blob_is, index_is}

-- rules that answer the same answer the same first
pub first_same : {A : Type 0} (f g : ℕ → Option A) (n : ℕ) → ((k : ℕ) → k < n → f k ≡ g k) → first_below f n ≡ first_below g n
first_same f g zero same = first_none f ∙ sym (first_none g)
first_same f g (suc n) same = first_suc f n ∙ rw (first_same f g n (λ k lt. same k (omega arith)), same n (omega arith)) (sym (first_suc g n))

-- a row of ClassLayout tells its size of the type that its number names
parent_is : (n type : ℕ) → 0 < type → is_token (index_token 0x02 n) (record { table = 0x02; row = type }) ≡ (n == type)
parent_is zero type some = let e : (0 == type) ≡ false = grind (arith, nat_tests) in sym e
parent_is (suc n) type some = refl

layout_row : (s : Source) (k : ℕ) → k < rows_of s.layout 0x0F → has_row (module_in s) (nth_row 0x0F k) ≡ true
layout_row s k low = row_is_there s (nth_row 0x0F k) (omega arith) refl (omega arith) (omega arith)

one_size : (s : Source) (type k : ℕ) → cells_fault s ≡ None → 0 < type → k < rows_of s.layout 0x0F → layout_size s type k ≡ class_size_at (module_in s) type k
unfolding layout_size class_size_at columns_in
one_size s type k good some low =
    let there = layout_row s k low in
    let size : number_at (cells_of (module_in s)) (nth_row 0x0F k) 1 ≡ raw_in s (nth_row 0x0F k) 1 = number_is s (nth_row 0x0F k) 1 there refl in
    let parent : token_at (cells_of (module_in s)) (nth_row 0x0F k) 2 ≡ index_token 0x02 (raw_in s (nth_row 0x0F k) 2) = index_is s (nth_row 0x0F k) 2 0x02 good there refl refl in
    rw (size, parent, parent_is (raw_in s (nth_row 0x0F k) 2) type some) refl

class_same : (s : Source) (type : ℕ) → cells_fault s ≡ None → 0 < type → size_of_class s type ≡ class_size (module_in s) type
unfolding size_of_class class_size
class_same s type good some =
    first_same (layout_size s type) (class_size_at (module_in s) type) (rows_of s.layout 0x0F) (λ k low. one_size s type k good some low)
    ∙ ap (first_below (class_size_at (module_in s) type)) (sym (count_there s 0x0F (omega arith) refl))

size_same : (s : Source) (e : Option Extent) → cells_fault s ≡ None → names_row e → extent_size s e ≡ sound.size_of (module_in s) e
size_same s (Some (Bytes n)) good row = refl
size_same s (Some (Class type)) good row = class_same s type good row
size_same s None good row = refl

-- the field that a row of FieldRVA names
field_signature : (s : Source) (n : ℕ) → cells_fault s ≡ None → nat_lt (rows_of s.layout 0x04) n ≡ false → (if n == 0 then None else extent_in (blob_or_none s (raw_in s (record { table = 0x04; row = n }) 2))) ≡ (if (index_token 0x04 n).row == 0 then None else extent_in (bytes_at (cells_of (module_in s)) (index_token 0x04 n) 2))
unfolding columns_in
field_signature s zero good fits = refl
field_signature s (suc n) good fits =
    let t : Token = record { table = 0x04; row = suc n } in
    let high : suc n ≤ rows_of s.layout 0x04 = grind (arith, nat_tests) in
    let there = row_is_there s t (omega arith) refl (omega arith) high in
    let blob : bytes_at (cells_of (module_in s)) t 2 ≡ blob_or_none s (raw_in s t 2) = blob_is s t 2 good there refl in
    rw blob refl

extent_same : (s : Source) (u : Token) → cells_fault s ≡ None → IsTrue (has_row (module_in s) u) → u.table ≡ 0x1D → data_extent s u ≡ sound.extent_of (module_in s) u
unfolding data_extent sound.extent_of columns_in
extent_same s u good there table =
    let row = row_stands s u there in
    let column : column_in u.table 1 ≡ Some (Index 0x04) = rw table refl in
    let fits : nat_lt (rows_of s.layout 0x04) (raw_in s u 1) ≡ false = rw (token_is u row.low) at (unfaulted s u 1 (Index 0x04) (no_index_fault s good) there column) in
    let named : token_at (cells_of (module_in s)) u 1 ≡ index_token 0x04 (raw_in s u 1) = index_is s u 1 0x04 good there (rw table refl) column in
    rw named (field_signature s (raw_in s u 1) good fits)

extent_names : (s : Source) (u : Token) → names_row (data_extent s u)
unfolding data_extent
extent_names s u = by_zero (raw_in s u 1 == 0) (extent_in (blob_or_none s (raw_in s (record { table = 0x04; row = raw_in s u 1 }) 2))) (extent_row (blob_or_none s (raw_in s (record { table = 0x04; row = raw_in s u 1 }) 2)))
  where
    by_zero : (b : Bool) (e : Option Extent) → names_row e → names_row (if b then None else e)
    by_zero true e h = tt
    by_zero false e h = h

-- a range that is loaded is as long as it was asked for
found_holds : (test : Region → Bool) (regions : List Region) (r : Region) → find test regions ≡ Some r → test r ≡ true
found_holds test [] r h = absurd cc
found_holds test (x ∷ rest) r h = by_test x r (test x) (find test rest) refl (found_holds test rest r) h
  where
    by_test : (x r : Region) (b : Bool) (later : Option Region) → test x ≡ b → (later ≡ Some r → test r ≡ true) → cond b (Some x) later ≡ Some r → test r ≡ true
    by_test x r true later is rest h = let e : x ≡ r = cc in rw (← e) is
    by_test x r false later is rest h = rest h

held_long : (first many : ℕ) (r : Region) → region_holds first many r ≡ true → length (take many (drop (first - r.address) r.bytes)) ≡ many
held_long first many r h = length_taken many (drop (first - r.address) r.bytes) (long (length r.bytes) r.address first many (length (drop (first - r.address) r.bytes)) h (length_dropped (first - r.address) r.bytes))
  where
    long : (n at first many k : ℕ) → (nat_le at first && nat_le (first - at + many) n) ≡ true → k ≡ n - (first - at) → many ≤ k
    long n at first many k h e = let le : first - at + many ≤ n = grind (arith, nat_tests) in omega arith

range_by : (first many : ℕ) (o : Option Region) (x : List ℕ) → ((r : Region) → o ≡ Some r → region_holds first many r ≡ true) → option_map (λ (r : Region). take many (drop (first - r.address) r.bytes)) o ≡ Some x → length x ≡ many
range_by first many None x all h = absurd cc
range_by first many (Some r) x all h = let e : take many (drop (first - r.address) r.bytes) ≡ x = cc in rw (← e) (held_long first many r (all r refl))

range_long : (regions : List Region) (first many : ℕ) (x : List ℕ) → range_loaded regions first many ≡ Some x → length x ≡ many
unfolding range_loaded
range_long regions first many x h = range_by first many (find (region_holds first many) regions) x (λ r e. found_holds (region_holds first many) regions r e) h

-- none, or as many as the size tells
abbrev fits_size : List ℕ → Option ℕ → Bool
fits_size there size = length there == 0 || is_size (length there) size

there_fits : (x : Option (List ℕ)) (k : ℕ) → ((y : List ℕ) → x ≡ Some y → length y ≡ k) → fits_size (unwrap_or x []) (Some k) ≡ true
there_fits None k h = refl
there_fits (Some y) k h = let e : length y ≡ k = h y refl in grind (arith, nat_tests)

sized : (s : Source) (rva : ℕ) (size : Option ℕ) → fits_size (unwrap_or (option_and_then (range_loaded s.loaded rva) size) []) size ≡ true
sized s rva None = refl
sized s rva (Some k) = there_fits (range_loaded s.loaded rva k) k (range_long s.loaded rva k)

unless_zero : (b : Bool) (x : List ℕ) (size : Option ℕ) → fits_size x size ≡ true → fits_size (if b then [] else x) size ≡ true
unless_zero true x size h = refl
unless_zero false x size h = h

bytes_fit : (s : Source) (u : Token) → fits_size (field_bytes s u) (extent_size s (data_extent s u)) ≡ true
unfolding field_bytes bytes_of_field
bytes_fit s u = unless_zero (raw_in s u 0 == 0) (unwrap_or (option_and_then (range_loaded s.loaded (raw_in s u 0)) (extent_size s (data_extent s u))) []) (extent_size s (data_extent s u)) (sized s (raw_in s u 0) (extent_size s (data_extent s u)))

pub field_sound : (s : Source) (u : Token) → cells_fault s ≡ None → IsTrue (has_row (module_in s) u) → u.table ≡ 0x1D → field_is_sound (module_in s) u (field_bytes s u) ≡ true
unfolding field_is_sound
field_sound s u good there table =
    let size : extent_size s (data_extent s u) ≡ sound.size_of (module_in s) (sound.extent_of (module_in s) u) = size_same s (data_extent s u) good (extent_names s u) ∙ ap (sound.size_of (module_in s)) (extent_same s u good there table) in
    rw size at (bytes_fit s u)
