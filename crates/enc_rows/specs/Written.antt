-- Table streams that are written: the rows of all tables, and the bytes that hold them (ECMA-335 II.24.2.6).
use Rattle.std.specs.Prelude.{◌≡◌, ℕ, ◌+◌, ◌*◌, ◌/◌, ◌%◌, ◌^◌, ◌<◌, ◌≤◌, Bool, true, false, ◌&&◌, ◌||◌, List, [], ◌∷◌, ◌++◌, length, map, flat_map, replicate, Some, IsTrue, nat_lt, nat_le, ◌==◌, if◌then◌else◌, slice_get}
use Rattle.std.specs.List.{list_all, list_any}
use Rattle.std.specs.Int.{w16, w32, w64, to_le_bytes}
use Rattle.enc_base.specs.Token.{nth_row}
use Rattle.enc_meta.specs.declared.span.Span.{Span}
use Rattle.enc_schema.specs.declared.column.Column.{Column}
use Rattle.enc_schema.specs.declared.column.Column.TheVariants.{Text, Guid, Blob}
use Rattle.enc_schema.specs.Schema.{columns_in, list_at}
use Rattle.enc_schema.specs.Widths.{Shape, width_of, space_of}
use Rattle.enc_rows.specs.Sums.{sum_below, below}
use Rattle.enc_rows.specs.Layout.{Layout, layout_of, form_allows, rows_begin, raw_cell}
use Rattle.enc_rows.specs.declared.form.Form.{Form}

-- the rows of a table, each by the numbers in its columns
abbrev pub rows_at : List (List (List ℕ)) → ℕ → List (List ℕ)
rows_at all table = list_at all table

abbrev pub count_at : List (List (List ℕ)) → ℕ → ℕ
count_at all table = length (rows_at all table)

-- the numbers of rows of all tables
unfoldable pub counts_of : List (List (List ℕ)) → List ℕ
counts_of all = map (count_at all) (below 64)

-- a table is there where it has rows
abbrev pub bit_of : List (List (List ℕ)) → ℕ → ℕ
bit_of all table = if nat_lt 0 (count_at all table) then 2 ^ table else 0

unfoldable pub valid_of : List (List (List ℕ)) → ℕ
valid_of all = sum_below (bit_of all) 64

-- by what widths go: the stream's own numbers of rows
abbrev pub shape_of : List (List (List ℕ)) → Bool → ℕ → Shape
shape_of all jtd flags = record { counts = counts_of all; jtd = jtd; flags = flags }

-- a number in the bytes of its column
unfoldable pub cell_bytes : Shape → Column → ℕ → List ℕ
cell_bytes s column n = if space_of s column == 4 then to_le_bytes w32 n else to_le_bytes w16 n

unfoldable pub row_bytes : Shape → List Column → List ℕ → List ℕ
row_bytes s (column ∷ columns) (n ∷ cells) = cell_bytes s column n ++ row_bytes s columns cells
row_bytes s _ _ = []

unfoldable pub table_written : List (List (List ℕ)) → Shape → ℕ → List ℕ
table_written all s table = flat_map (row_bytes s (columns_in table)) (rows_at all table)

-- the number of rows of a table that is there
abbrev pub count_written : List (List (List ℕ)) → ℕ → List ℕ
count_written all table = if nat_lt 0 (count_at all table) then to_le_bytes w32 (count_at all table) else []

-- four bytes more where heap bit 40 is set
abbrev pub more_data : ℕ → List ℕ
more_data flags = if flags / 0x40 % 2 == 1 then replicate 4 0 else []

-- the header's 24 bytes: version 2.0, the heap bits, the tables that are there, and none marked as sorted
abbrev pub header_written : ℕ → ℕ → List ℕ
header_written valid flags = 0 ∷ 0 ∷ 0 ∷ 0 ∷ 2 ∷ 0 ∷ flags ∷ 1 ∷ (to_le_bytes w64 valid ++ replicate 8 0)

-- the stream: its header, the numbers of rows, and the rows table by table
unfoldable pub stream_of : List (List (List ℕ)) → Bool → ℕ → List ℕ
stream_of all jtd flags =
    header_written (valid_of all) flags
    ++ flat_map (count_written all) (below 64)
    ++ more_data flags
    ++ flat_map (table_written all (shape_of all jtd flags)) (below 64)

-- the heap bit of a column, 0 where it names no heap
abbrev pub heap_bit : Column → ℕ
heap_bit Text = 1
heap_bit Guid = 2
heap_bit Blob = 4
heap_bit _ = 0

-- the column is of this heap, and the number doesn't fit two bytes
unfoldable pub cell_is_wide : ℕ → Column → ℕ → Bool
cell_is_wide bit column n = heap_bit column == bit && nat_le 0x10000 n

-- so it is of some number of a row
unfoldable pub row_is_wide : ℕ → List Column → List ℕ → Bool
row_is_wide bit (column ∷ columns) (n ∷ cells) = cell_is_wide bit column n || row_is_wide bit columns cells
row_is_wide bit _ _ = false

-- so it is of some number of some row
unfoldable pub is_wide : List (List (List ℕ)) → ℕ → Bool
is_wide all bit = list_any (λ table. list_any (row_is_wide bit (columns_in table)) (rows_at all table)) (below 64)

-- the heap bits by which all numbers fit their heaps' columns
unfoldable pub heap_bits : List (List (List ℕ)) → ℕ
heap_bits all = (if is_wide all 1 then 1 else 0) + (if is_wide all 2 then 2 else 0) + (if is_wide all 4 then 4 else 0)

-- a row has one number for each column
abbrev pub has_cells : List Column → List ℕ → Bool
has_cells columns cells = length cells == length columns

-- each number fits its column's width
unfoldable pub fits : Shape → Column → ℕ → Bool
fits s column n = nat_lt n (2 ^ (8 * width_of s column))

unfoldable pub row_fits : Shape → List Column → List ℕ → Bool
row_fits s [] [] = true
row_fits s (column ∷ columns) (n ∷ cells) = fits s column n && row_fits s columns cells
row_fits s _ _ = false

-- a number of four bytes
unfoldable pub is_word : ℕ → Bool
is_word n = nat_lt n (2 ^ 32)

-- no table past the last, fewer than 2^24 rows in each, and one number of four bytes for each column
pub record AreRows (all : List (List (List ℕ))) : Type 0 where
  pub tables : length all ≤ 64
  pub few : (table : ℕ) → count_at all table < 2 ^ 24
  pub cells : (table : ℕ) → IsTrue (list_all (has_cells (columns_in table)) (rows_at all table))
  pub words : (table : ℕ) → IsTrue (list_all (list_all is_word) (rows_at all table))

-- every number fits its column's width by these rows, this `#JTD` and these heap bits
pub record AllFit (all : List (List (List ℕ))) (jtd : Bool) (flags : ℕ) : Type 0 where
  pub each : (table : ℕ) → IsTrue (list_all (row_fits (shape_of all jtd flags) (columns_in table)) (rows_at all table))

-- how the stream is laid out
abbrev pub layout_written : List (List (List ℕ)) → Span → Bool → ℕ → Layout
layout_written all span jtd flags = record {
  span = span;
  counts = counts_of all;
  shape = shape_of all jtd flags;
  first = rows_begin (valid_of all) flags;
}

-- the stream is read back, where the form allows its tables
abbrev pub StreamIsRead : Type 0
StreamIsRead = (all : List (List (List ℕ))) (span : Span) (form : Form) (jtd : Bool) (flags : ℕ) → AreRows all
    → flags < 0x100
    → IsTrue (form_allows form (valid_of all) (counts_of all))
    → layout_of (stream_of all jtd flags) span form jtd (replicate 64 0) ≡ Some (layout_written all span jtd flags)

-- and so is every number
abbrev pub CellsAreRead : Type 0
CellsAreRead = (all : List (List (List ℕ))) (span : Span) (jtd : Bool) (flags : ℕ) (table n i : ℕ) (cells : List ℕ)
    (x : ℕ) → AreRows all
    → AllFit all jtd flags → flags < 0x100 → slice_get (rows_at all table) n ≡ Some cells → slice_get cells i ≡ Some x
    → raw_cell (stream_of all jtd flags) (layout_written all span jtd flags) (nth_row table n) i ≡ Some x

-- each number fits its column but for those of heaps
unfoldable pub index_fits : Shape → Column → ℕ → Bool
index_fits s Text n = true
index_fits s Guid n = true
index_fits s Blob n = true
index_fits s column n = fits s column n

unfoldable pub row_indices_fit : Shape → List Column → List ℕ → Bool
row_indices_fit s [] [] = true
row_indices_fit s (column ∷ columns) (n ∷ cells) = index_fits s column n && row_indices_fit s columns cells
row_indices_fit s _ _ = false

pub record IndicesFit (all : List (List (List ℕ))) (jtd : Bool) : Type 0 where
  pub each : (table : ℕ) → IsTrue
      (list_all (row_indices_fit (shape_of all jtd 0) (columns_in table)) (rows_at all table))

-- then all numbers of four bytes fit with the heap bits that they ask for
abbrev pub HeapBitsFit : Type 0
HeapBitsFit = (all : List (List (List ℕ))) (jtd : Bool) → AreRows all → IndicesFit all jtd
    → AllFit all jtd (heap_bits all)
