-- The initial bytes of fields that are read of an image that was written are the module's.
use Rattle.std.proofs.Common.{◌≡◌, ℕ, zero, suc, ◌-◌, ◌%◌, ◌<◌, ◌≤◌, Bool, true, false, List, [], length, Option, Some, None, refl, sym, ap, subst, ◌∙◌, arith}
use Rattle.std.specs.Prelude.{◌&&◌, ◌||◌, ◌==◌, option_map, option_and_then, unwrap_or, nat_lt, nat_le, slice_index, if◌then◌else◌}
use Rattle.std.proofs.lemmas.Bool.Decides.{nat_tests}
use Rattle.enc_base.specs.Order.{first_below}
use Rattle.enc_base.specs.Token.{nth_row, is_token}
use Rattle.enc_base.specs.declared.token.Token.{Token}
use Rattle.enc_image.specs.Base.{blob_or_none, layout_size, size_of_class, extent_size, data_extent, bytes_of_field, field_bytes}
use Rattle.enc_image.proofs.Rows.{token_is}
use Rattle.enc_image.proofs.SoundFields.{first_same}
use Rattle.enc_meta.specs.Built.{Built}
use Rattle.enc_meta.specs.Regions.{Region, range_loaded}
use Rattle.enc_plain.specs.Cell.{Cell, number, text, blob, guid, refer, body, field, fields, is_field, cell_kind}
use Rattle.enc_plain.specs.Extent.{extent_in}
use Rattle.enc_plain.specs.Module.{Module, has_row, cells_of, cell_of}
use Rattle.enc_plain.specs.Reading.{index_token}
use Rattle.enc_plain.specs.Rows.{number_at, bytes_at, token_at}
use Rattle.enc_plain.specs.Sound.{row_count, class_size_at, class_size, is_size, field_is_sound}
use Rattle.enc_plain.specs.Sound as sound
use Rattle.enc_plain.specs.declared.extent.Extent.{Extent}
use Rattle.enc_plain.specs.declared.extent.Extent.TheVariants.{Bytes, Class}
use Rattle.enc_plain.proofs.FieldExtents.{names_row, extent_row}
use Rattle.enc_plain.proofs.KindsOf.{row_bounds}
use Rattle.enc_rows.specs.Layout.{rows_of}
use Rattle.enc_rows.specs.Source.{Source, raw_in}
use Rattle.enc_schema.specs.Schema.{columns_in, column_in}
use Rattle.enc_schema.specs.declared.column.Column.TheVariants.{Num32, Index}
use Rattle.enc_rewriter.specs.Placed.{Placed, IsFieldPlaced}
use Rattle.enc_rewriter.proofs.Gathers.{row_there}
use Rattle.enc_rewriter.proofs.NumbersMeant.{IsRead, count_read, number_says, number_meant, blob_meant, index_named, index_meant}

-- a row of ClassLayout tells its size of the type that its number names
parent_is : (n type : ℕ) → 0 < type → is_token (index_token 0x02 n) (record { table = 0x02; row = type }) ≡ (n == type)
parent_is zero type some = let e : (0 == type) ≡ false = grind (arith, nat_tests) in sym e
parent_is (suc n) type some = refl

one_size : (m : Module) (h : Built) (p : Placed) (rows : List (List (List ℕ))) (s : Source) (type k : ℕ) → IsRead m h p rows s → 0 < type → k < row_count m 0x0F
    → layout_size s type k ≡ class_size_at m type k
unfolding layout_size class_size_at columns_in
one_size m h p rows s type k r some low =
    let there : has_row m (nth_row 0x0F k) ≡ true = row_there m 0x0F k low in
    let size : number_at (cells_of m) (nth_row 0x0F k) 1 ≡ raw_in s (nth_row 0x0F k) 1 = number_meant m h p rows s (nth_row 0x0F k) 1 r there refl in
    let parent : token_at (cells_of m) (nth_row 0x0F k) 2 ≡ index_token 0x02 (raw_in s (nth_row 0x0F k) 2) = index_meant m h p rows s (nth_row 0x0F k) 2 0x02 r there refl in
    rw (size, parent, parent_is (raw_in s (nth_row 0x0F k) 2) type some) refl

class_same : (m : Module) (h : Built) (p : Placed) (rows : List (List (List ℕ))) (s : Source) (type : ℕ) → IsRead m h p rows s → 0 < type → size_of_class s type ≡ class_size m type
unfolding size_of_class class_size
class_same m h p rows s type r some =
    let many = count_read m h p rows s 0x0F r refl (omega arith) in
    first_same (layout_size s type) (class_size_at m type) (rows_of s.layout 0x0F) (λ k low. one_size m h p rows s type k r some (omega (arith, low, many)))
    ∙ ap (first_below (class_size_at m type)) many

size_same : (m : Module) (h : Built) (p : Placed) (rows : List (List (List ℕ))) (s : Source) (e : Option Extent) → IsRead m h p rows s → names_row e → extent_size s e ≡ sound.size_of m e
size_same m h p rows s (Some (Bytes n)) r row = refl
size_same m h p rows s (Some (Class type)) r row = class_same m h p rows s type r row
size_same m h p rows s None r row = refl

-- a row that is there
pub row_within : (m : Module) (u : Token) → 0 < u.row → u.row ≤ row_count m u.table → has_row m u ≡ true
unfolding has_row
row_within m u low high = both (row_count m u.table) u.row low high
  where
    both : (n row : ℕ) → 0 < row → row ≤ n → (nat_lt 0 row && nat_le row n) ≡ true
    both n row low high = grind (arith, nat_tests)

-- the field that a row of FieldRVA names
field_signature : (m : Module) (h : Built) (p : Placed) (rows : List (List (List ℕ))) (s : Source) (n : ℕ) → IsRead m h p rows s
    → nat_le (index_token 0x04 n).row (row_count m (index_token 0x04 n).table) ≡ true
    → (if n == 0 then None else extent_in (blob_or_none s (raw_in s (record { table = 0x04; row = n }) 2)))
    ≡ (if (index_token 0x04 n).row == 0 then None else extent_in (bytes_at (cells_of m) (index_token 0x04 n) 2))
unfolding columns_in
field_signature m h p rows s zero r fits = refl
field_signature m h p rows s (suc n) r fits =
    let t : Token = record { table = 0x04; row = suc n } in
    let high : suc n ≤ row_count m 0x04 = grind (arith, nat_tests) in
    let there = row_within m t (omega arith) high in
    let blob : bytes_at (cells_of m) t 2 ≡ blob_or_none s (raw_in s t 2) = blob_meant m h p rows s t 2 r there refl in
    rw blob refl

extent_same : (m : Module) (h : Built) (p : Placed) (rows : List (List (List ℕ))) (s : Source) (u : Token) → IsRead m h p rows s → has_row m u ≡ true → u.table ≡ 0x1D
    → data_extent s u ≡ sound.extent_of m u
unfolding data_extent sound.extent_of columns_in
extent_same m h p rows s u r there table =
    let column : column_in u.table 1 ≡ Some (Index 0x04) = rw table refl in
    let named = index_named m h p rows s u 1 0x04 r there column in
    let token : token_at (cells_of m) u 1 ≡ index_token 0x04 (raw_in s u 1) = index_meant m h p rows s u 1 0x04 r there column in
    rw token (field_signature m h p rows s (raw_in s u 1) r named.1)

extent_names : (s : Source) (u : Token) → names_row (data_extent s u)
unfolding data_extent
extent_names s u = by_zero (raw_in s u 1 == 0) (extent_in (blob_or_none s (raw_in s (record { table = 0x04; row = raw_in s u 1 }) 2))) (extent_row (blob_or_none s (raw_in s (record { table = 0x04; row = raw_in s u 1 }) 2)))
  where
    by_zero : (b : Bool) (e : Option Extent) → names_row e → names_row (if b then None else e)
    by_zero true e h = tt
    by_zero false e h = h

sizes : (m : Module) (h : Built) (p : Placed) (rows : List (List (List ℕ))) (s : Source) (u : Token) → IsRead m h p rows s → has_row m u ≡ true → u.table ≡ 0x1D
    → extent_size s (data_extent s u) ≡ sound.size_of m (sound.extent_of m u)
sizes m h p rows s u r there table =
    size_same m h p rows s (data_extent s u) r (extent_names s u) ∙ ap (sound.size_of m) (extent_same m h p rows s u r there table)

-- the bytes of a field
field_of : (o : Option Cell) → option_map cell_kind o ≡ Some fields → (there : List ℕ) × (o ≡ Some (field there))
field_of None kind = absurd cc
field_of (Some (number n)) kind = absurd cc
field_of (Some (text v)) kind = absurd cc
field_of (Some (blob v)) kind = absurd cc
field_of (Some (guid v)) kind = absurd cc
field_of (Some (refer t)) kind = absurd cc
field_of (Some (body b)) kind = absurd cc
field_of (Some (field v)) kind = (v, refl)

field_there : (m : Module) (u : Token) → sound.IsSound m → has_row m u ≡ true → u.table ≡ 0x1D → (there : List ℕ) × (cell_of m u 0 ≡ Some (field there))
field_there m u good there table = field_of (cell_of m u 0) (good.kinds.kinds u 0 fields there (rw table refl))

field_stands : (m : Module) (h : Built) (p : Placed) (rows : List (List (List ℕ))) (s : Source) (u : Token) (there : List ℕ) → IsRead m h p rows s → has_row m u ≡ true → u.table ≡ 0x1D
    → cell_of m u 0 ≡ Some (field there) → IsFieldPlaced p.code there (raw_in s u 0)
unfolding columns_in
field_stands m h p rows s u there r row table is =
    let b = row_bounds m u row in
    let high : u.row ≤ row_count m 0x1D = subst (λ (t : ℕ). u.row ≤ row_count m t) table b.1 in
    let e : nth_row 0x1D (u.row - 1) ≡ u = ap (λ (t : ℕ). nth_row t (u.row - 1)) (sym table) ∙ token_is u b.0 in
    let cell : cell_of m (nth_row 0x1D (u.row - 1)) 0 ≡ Some (field there) = ap (λ (t : Token). cell_of m t 0) e ∙ is in
    let column : column_in u.table 0 ≡ Some Num32 = rw table refl in
    let at : is_field u.table 0 ≡ true = rw table refl in
    let says : raw_in s u 0 ≡ slice_index p.fields (u.row - 1) = (number_says m h p rows s u 0 Num32 r row column).field at in
    subst (λ (n : ℕ). IsFieldPlaced p.code there n) (sym says) (r.held.placed.fields (u.row - 1) there (omega (arith, b.0, high)) cell)

size_by : (n : ℕ) (o : Option ℕ) (b : Bool) → (n == 0) ≡ b → (b || is_size n o) ≡ true → 0 < n → o ≡ Some n
size_by n o true is h some = let z : n ≡ 0 = grind (arith, nat_tests) in absurd (omega (arith, z, some))
size_by n None false is h some = absurd cc
size_by n (Some k) false is h some = let e : k ≡ n = grind (arith, nat_tests) in ap (λ (j : ℕ). Some j) e

size_told : (m : Module) (h : Built) (p : Placed) (rows : List (List (List ℕ))) (s : Source) (u : Token) (there : List ℕ) → IsRead m h p rows s → has_row m u ≡ true → u.table ≡ 0x1D
    → cell_of m u 0 ≡ Some (field there) → 0 < length there → extent_size s (data_extent s u) ≡ Some (length there)
unfolding columns_in field_is_sound
size_told m h p rows s u there r row table is some =
    let column : column_in u.table 0 ≡ Some Num32 = rw table refl in
    let good : field_is_sound m u there ≡ true = r.sound.cells.each u 0 Num32 (field there) row column is in
    sizes m h p rows s u r row table ∙ size_by (length there) (sound.size_of m (sound.extent_of m u)) (length there == 0) refl good some

pub bytes_read : (m : Module) (h : Built) (p : Placed) (rows : List (List (List ℕ))) (s : Source) (u : Token) (there : List ℕ) → IsRead m h p rows s → has_row m u ≡ true → u.table ≡ 0x1D
    → cell_of m u 0 ≡ Some (field there) → 0 < raw_in s u 0 → bytes_of_field s u ≡ Some there
unfolding bytes_of_field
bytes_read m h p rows s u there r row table is some =
    let stands = field_stands m h p rows s u there r row table is in
    let size = size_told m h p rows s u there r row table is (stands.some some) in
    ap (option_and_then (range_loaded s.loaded (raw_in s u 0))) size
    ∙ ap (λ (l : List Region). range_loaded l (raw_in s u 0) (length there)) r.read.loaded
    ∙ stands.range r.read.behind some

by_rva : (rva : ℕ) (b : Bool) (o : Option (List ℕ)) (there : List ℕ) → (rva == 0) ≡ b → (rva ≡ 0 → there ≡ []) → (0 < rva → o ≡ Some there)
    → (if b then [] else unwrap_or o []) ≡ there
by_rva rva true o there is none some = let z : rva ≡ 0 = grind (arith, nat_tests) in sym (none z)
by_rva rva false o there is none some = let low : 0 < rva = grind (arith, nat_tests) in ap (λ (q : Option (List ℕ)). unwrap_or q []) (some low)

-- so the cell of a field is the module's
pub field_meant : (m : Module) (h : Built) (p : Placed) (rows : List (List (List ℕ))) (s : Source) (u : Token) → IsRead m h p rows s → has_row m u ≡ true → u.table ≡ 0x1D
    → Some (field (field_bytes s u)) ≡ cell_of m u 0
unfolding field_bytes
field_meant m h p rows s u r row table =
    let w = field_there m u r.sound row table in
    let stands = field_stands m h p rows s u w.0 r row table w.1 in
    ap (λ (x : List ℕ). Some (field x)) (by_rva (raw_in s u 0) (raw_in s u 0 == 0) (bytes_of_field s u) w.0 refl stands.none (λ some. bytes_read m h p rows s u w.0 r row table w.1 some)) ∙ sym w.1

-- a field with an RVA has its bytes there
pub field_loaded : (m : Module) (h : Built) (p : Placed) (rows : List (List (List ℕ))) (s : Source) (u : Token) → IsRead m h p rows s → has_row m u ≡ true → u.table ≡ 0x1D
    → 0 < raw_in s u 0 → (there : List ℕ) × (bytes_of_field s u ≡ Some there)
field_loaded m h p rows s u r row table some =
    let w = field_there m u r.sound row table in
    (w.0, bytes_read m h p rows s u w.0 r row table w.1 some)

-- and they stand at a multiple of eight
pub field_aligned : (m : Module) (h : Built) (p : Placed) (rows : List (List (List ℕ))) (s : Source) (n : ℕ) → IsRead m h p rows s → n < row_count m 0x1D → raw_in s (nth_row 0x1D n) 0 % 8 ≡ 0
field_aligned m h p rows s n r low =
    let u = nth_row 0x1D n in
    let row = row_there m 0x1D n low in
    let w = field_there m u r.sound row refl in
    (field_stands m h p rows s u w.0 r row refl w.1).aligned
