-- What each cell of a base says fits its column.
use Rattle.std.proofs.Common.{◌≡◌, ℕ, ◌^◌, ◌<◌, ◌≤◌, Bool, true, false, List, Option, Some, None, refl, sym, ◌∙◌, arith}
use Rattle.std.specs.Prelude.{◌==◌, ◌&&◌, IsTrue, option_map, unwrap_or, nat_lt, slice_get, if◌then◌else◌}
use Rattle.std.specs.Int.{w16, w32}
use Rattle.std.proofs.lemmas.Bool.Decides.{nat_tests}
use Rattle.enc_base.specs.Numbers.{little_endian_at}
use Rattle.enc_base.specs.declared.token.Token.{Token}
use Rattle.enc_base.proofs.SmallNumbers.{EachIsByte, got_few, number16_few, number32_few}
use Rattle.enc_meta.proofs.EntryLengths.{text_zero, guid_long}
use Rattle.enc_schema.specs.declared.column.Column.{Column}
use Rattle.enc_schema.specs.declared.column.Column.TheVariants.{Num8, Num16, Num32, Text, Guid, Blob, Index, Coded, Run}
use Rattle.enc_schema.specs.Schema.{column_in}
use Rattle.enc_schema.specs.Widths.{width_of}
use Rattle.enc_rows.specs.Layout.{number_of_width, cell_place, raw_cell, stream_has_row}
use Rattle.enc_rows.specs.Source.{Source, raw_in}
use Rattle.enc_plain.specs.Bodies.{code_loaded, body_loaded}
use Rattle.enc_plain.specs.Cell.{Cell, number, body, field, is_body, is_field}
use Rattle.enc_plain.specs.Module as plain
use Rattle.enc_plain.specs.Module.{cell_of}
use Rattle.enc_plain.specs.Reading.{cell_read, cell_with}
use Rattle.enc_plain.specs.Sound.{number_fits, cell_is_sound, HasCells}
use Rattle.enc_plain.proofs.ReadCells.{ReadsFor, read_fits}
use Rattle.enc_image.specs.Base.{users_of, field_bytes, reading_of, module_in}
use Rattle.enc_image.proofs.Rows.{row_stands, count_there}
use Rattle.enc_image.proofs.Opens.{IsBase}
use Rattle.enc_image.proofs.Told.{cell_is}
use Rattle.enc_image.proofs.SoundBodies.{code_sound}
use Rattle.enc_image.proofs.SoundFields.{field_sound}

-- the number in a cell fits its column's width
or_zero : (o : Option ℕ) (k : ℕ) → 0 < k → ((n : ℕ) → o ≡ Some n → n < k) → unwrap_or o 0 < k
or_zero None k some h = some
or_zero (Some n) k some h = h n refl

same_number : (o : Option ℕ) → option_map (λ (n : ℕ). n) o ≡ o
same_number None = refl
same_number (Some n) = refl

wide : (stream : List ℕ) (at n : ℕ) (a b : Bool) → EachIsByte stream → (if a then slice_get stream at else if b then option_map (λ (k : ℕ). k) (little_endian_at w16 stream at) else little_endian_at w32 stream at) ≡ Some n → n < 2 ^ 32
wide stream at n true b all h = omega (arith, got_few stream at n all h)
wide stream at n false true all h = omega (arith, number16_few stream at n all (sym (same_number (little_endian_at w16 stream at)) ∙ h))
wide stream at n false false all h = number32_few stream at n all h

if_row : (b : Bool) (o : Option ℕ) (k : ℕ) → 0 < k → ((n : ℕ) → o ≡ Some n → n < k) → unwrap_or (if b then o else None) 0 < k
if_row true o k some h = or_zero o k some h
if_row false o k some h = some

below_test : (n k : ℕ) → n < k → nat_lt n k ≡ true
below_test n k h = grind (arith, nat_tests)

wide_fits : (s : Source) (u : Token) (w at : ℕ) → EachIsByte s.stream → nat_lt (unwrap_or (if stream_has_row s.layout u then number_of_width w s.stream at else None) 0) (2 ^ 32) ≡ true
wide_fits s u w at all = below_test _ _ (if_row (stream_has_row s.layout u) (number_of_width w s.stream at) (2 ^ 32) (omega arith) (λ n h. wide s.stream at n (w == 1) (w == 2) all h))

number_in : (s : Source) (u : Token) (c : Column) (at : ℕ) → EachIsByte s.stream → number_fits c (unwrap_or (if stream_has_row s.layout u then number_of_width (width_of s.layout.shape c) s.stream at else None) 0) ≡ true
number_in s u Num8 at all = below_test _ _ (if_row (stream_has_row s.layout u) (slice_get s.stream at) 0x100 (omega arith) (λ n h. got_few s.stream at n all h))
number_in s u Num16 at all = below_test _ _ (if_row (stream_has_row s.layout u) (option_map (λ (k : ℕ). k) (little_endian_at w16 s.stream at)) 0x10000 (omega arith) (λ n h. number16_few s.stream at n all (sym (same_number (little_endian_at w16 s.stream at)) ∙ h)))
number_in s u Num32 at all = wide_fits s u 4 at all
number_in s u Text at all = wide_fits s u (width_of s.layout.shape Text) at all
number_in s u Guid at all = wide_fits s u (width_of s.layout.shape Guid) at all
number_in s u Blob at all = wide_fits s u (width_of s.layout.shape Blob) at all
number_in s u (Index t) at all = wide_fits s u (width_of s.layout.shape (Index t)) at all
number_in s u (Coded k) at all = wide_fits s u (width_of s.layout.shape (Coded k)) at all
number_in s u (Run t) at all = wide_fits s u (width_of s.layout.shape (Run t)) at all

pub raw_fits : (s : Source) (u : Token) (i : ℕ) (c : Column) → EachIsByte s.stream → column_in u.table i ≡ Some c → number_fits c (raw_in s u i) ≡ true
unfolding raw_cell
raw_fits s u i c all e = rw e (number_in s u c (cell_place s.layout u i) all)

at_most : (a b : ℕ) → b ≡ a → a ≤ b
at_most a b h = omega arith

base_reads : (s : Source) → IsBase s → ReadsFor (module_in s) (reading_of s)
base_reads s base = record { texts = λ n x h. text_zero s.heaps.strings n x h; guids = λ n x h. guid_long s.heaps.guids n x h; rows = λ t part low. at_most _ _ (count_there s t low part) }

place_of : (table i k : ℕ) → (table == k && i == 0) ≡ true → (table ≡ k) × (i ≡ 0)
place_of table i k h = (grind (arith, nat_tests), grind (arith, nat_tests))

by_place : (s : Source) (u : Token) (i : ℕ) (column : Column) (b f : Bool) → IsBase s → IsTrue (plain.has_row (module_in s) u) → column_in u.table i ≡ Some column → is_body u.table i ≡ b → is_field u.table i ≡ f → cell_is_sound (module_in s) u column (unwrap_or (if b then Some (body (body_loaded s.loaded (users_of s) (raw_in s u i))) else if f then Some (field (field_bytes s u)) else cell_read (reading_of s) column (raw_in s u i)) (number 0)) ≡ true
unfolding body_loaded
by_place s u i column true f base there e hb hf =
    let p = place_of u.table i 0x06 hb in
    rw p.1 (code_sound s u column (code_loaded s.loaded (raw_in s u 0)) base there p.0 refl)
by_place s u i column false true base there e hb hf =
    let p = place_of u.table i 0x1D hf in
    field_sound s u base.cells there p.0
by_place s u i column false false base there e hb hf =
    let row = row_stands s u there in
    read_fits (module_in s) u (reading_of s) i column (raw_in s u i) (base_reads s base) row.part row.table e (raw_fits s u i column base.stream e)

cell_at : (s : Source) (u : Token) (i : ℕ) (column : Column) (c : Cell) → IsBase s → IsTrue (plain.has_row (module_in s) u) → column_in u.table i ≡ Some column → cell_of (module_in s) u i ≡ Some c → cell_is_sound (module_in s) u column c ≡ true
unfolding cell_with
cell_at s u i column c base there e is =
    let made = cell_is s u i column c there e is in
    rw made (by_place s u i column (is_body u.table i) (is_field u.table i) base there e refl refl)

pub base_cells : (s : Source) → IsBase s → HasCells (module_in s)
base_cells s base = record { each = λ u i column c there e is. cell_at s u i column c base there e is }
