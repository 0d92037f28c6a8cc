-- The table stream: which tables it has, where their rows stand, and the numbers in them (ECMA-335 II.24.2.6).
use Rattle.std.specs.Prelude.{◌≡◌, ℕ, ◌<◌, ◌≤◌, ◌+◌, ◌-◌, ◌*◌, ◌/◌, ◌%◌, ◌^◌, Bool, true, false, not, ◌&&◌, ◌||◌, List, [], ◌∷◌, length, map, Option, Some, None, option_map, option_and_then, unwrap_or, Result, Ok, Err, nat_lt, nat_le, ◌==◌, if◌then◌else◌, slice_get, slice_index}
use Rattle.std.specs.List.{list_all, list_any}
use Rattle.std.specs.Int.{w16, w32, w64}
use Rattle.enc_base.specs.Numbers.{little_endian_at}
use Rattle.enc_base.specs.declared.token.Token.{Token}
use Rattle.enc_base.specs.declared.refusal.Refusal.{Refusal}
use Rattle.enc_base.specs.declared.refusal.Code.TheVariants.{F}
use Rattle.enc_base.specs.declared.refusal.Place.TheVariants as place
use Rattle.enc_meta.specs.declared.span.Span.{Span}
use Rattle.enc_meta.specs.Heaps.{part}
use Rattle.enc_base.specs.Tables.{table_count, «module», enc_log, enc_map, document, method_debug_information, local_scope, local_variable, local_constant, import_scope, state_machine_method, custom_debug_information}
use Rattle.enc_schema.specs.Schema.{column_in}
use Rattle.enc_schema.specs.Widths.{Shape, width_of, row_width, column_start}
use Rattle.enc_rows.specs.Sums.{sum_below, below}
use Rattle.enc_rows.specs.declared.form.Form.{Form}
use Rattle.enc_rows.specs.declared.form.Form.TheVariants as form

-- the stream's valid bits say that it has this table
abbrev pub has_table : ℕ → ℕ → Bool
has_table valid table = valid / 2 ^ table % 2 == 1

abbrev pub one : Bool → ℕ
one true = 1
one false = 0

-- how many tables it has below this one
unfoldable pub tables_below : ℕ → ℕ → ℕ
tables_below valid table = sum_below (λ k. one (has_table valid k)) table

-- the number of rows of a table: a number of four bytes for each table that is there, behind the 24 bytes of the header
unfoldable pub count_in : List ℕ → ℕ → ℕ → ℕ
count_in stream valid table = if has_table valid table
    then unwrap_or (little_endian_at w32 stream (24 + 4 * tables_below valid table)) 0 else 0

-- the numbers of rows by which widths go: the stream's own, and where it lacks a module's table those of another module
unfoldable pub width_count : List ℕ → ℕ → List ℕ → ℕ → ℕ
width_count stream valid outer table =
    if has_table valid table then count_in stream valid table
    else if nat_lt table table_count then slice_index outer table
    else 0

-- where the rows begin: behind the counts, and four bytes more where heap bit 40 is set
unfoldable pub rows_begin : ℕ → ℕ → ℕ
rows_begin valid flags = 24 + 4 * tables_below valid 64 + (if flags / 0x40 % 2 == 1 then 4 else 0)

-- how a table stream is laid out: where it stands in the file, the numbers of its rows, what widths go by, and where
-- the rows begin
pub record Layout : Type 0 where
  pub span : Span
  pub counts : List ℕ
  pub shape : Shape
  pub first : ℕ

abbrev pub rows_of : Layout → ℕ → ℕ
rows_of l table = slice_index l.counts table

-- the bytes of a table
abbrev pub table_bytes : Layout → ℕ → ℕ
table_bytes l table = rows_of l table * row_width l.shape table

-- where a table begins in the stream
unfoldable pub table_start : Layout → ℕ → ℕ
table_start l table = l.first + sum_below (table_bytes l) table

-- the tables that a PDB may have
abbrev pub pdb_tables : List ℕ
pdb_tables =
    enc_log ∷ enc_map ∷ document ∷ method_debug_information ∷ local_scope ∷ local_variable ∷ local_constant
    ∷ import_scope ∷ state_machine_method
    ∷ custom_debug_information ∷ []

abbrev pub is_pdb_table : ℕ → Bool
is_pdb_table table = list_any (λ t. t == table) pdb_tables

-- a stream of a PDB may have this table
unfoldable pub is_expected : ℕ → ℕ → Bool
is_expected valid table = not (has_table valid table) || is_pdb_table table

-- which tables a stream of this form may have: a module has one row of Module, a base none of EncLog and EncMap, a
-- PDB its own tables alone
unfoldable pub form_allows : Form → ℕ → List ℕ → Bool
form_allows form.Base valid counts =
    nat_lt valid (2 ^ table_count) && slice_index counts «module» == 1 && slice_index counts enc_log == 0
    && slice_index counts enc_map == 0
form_allows form.Delta valid counts = nat_lt valid (2 ^ table_count) && slice_index counts «module» == 1
form_allows form.Pdb valid counts = list_all (is_expected valid) (below 64)

-- the stream laid out by its header
unfoldable pub laid_out : List ℕ → Span → ℕ → ℕ → Bool → List ℕ → Layout
laid_out stream span valid flags jtd outer = record {
  span = span;
  counts = map (count_in stream valid) (below 64);
  shape = record { counts = map (width_count stream valid outer) (below 64); jtd = jtd; flags = flags };
  first = rows_begin valid flags;
}

-- the counts stand in the stream, none passes 2^24 - 1, the form allows them, and the rows stand in the stream up to
-- their end
abbrev pub is_whole : ℕ → Form → ℕ → List ℕ → ℕ → ℕ → Bool
is_whole len form valid counts first end =
    nat_le first len && list_all (λ n. nat_lt n 0x1000000) counts && form_allows form valid counts && nat_le end len

-- the layout, where the stream is whole by it
unfoldable pub whole_layout : List ℕ → Form → ℕ → Layout → Option Layout
whole_layout stream form valid l =
    if is_whole (length stream) form valid l.counts l.first (table_start l 64) then Some l else None

-- the layout of a table stream, where it is whole
unfoldable pub layout_of : List ℕ → Span → Form → Bool → List ℕ → Option Layout
layout_of stream span form jtd outer =
    option_and_then (λ valid. option_and_then
    (λ flags. whole_layout stream form valid (laid_out stream span valid flags jtd outer)) (slice_get stream 6))
    (little_endian_at w64 stream 8)

-- the layout, or F6
abbrev pub tables_or_fault : Option Layout → Result Layout Refusal
tables_or_fault (Some l) = Ok l
tables_or_fault None = Err (record { code = F 6; place = place.Tables })

unfoldable pub stream_tables : List ℕ → Span → Form → Bool → List ℕ → Result Layout Refusal
stream_tables bytes span form jtd outer = tables_or_fault (layout_of (part bytes span) span form jtd outer)

-- the number of one, two or four bytes at a place
abbrev pub number_of_width : ℕ → List ℕ → ℕ → Option ℕ
number_of_width w stream at = if w == 1 then slice_get stream at else if w == 2
    then option_map (λ (n : ℕ). n) (little_endian_at w16 stream at)
    else little_endian_at w32 stream at

-- where a cell stands in the stream
unfoldable pub cell_place : Layout → Token → ℕ → ℕ
cell_place l token i = table_start l token.table +
    (token.row - 1) * row_width l.shape token.table + column_start l.shape token.table i

-- the row is one of the table's
abbrev pub stream_has_row : Layout → Token → Bool
stream_has_row l token = nat_lt 0 token.row && nat_le token.row (rows_of l token.table)

-- the number that stands in a cell, where the table has the row and the column
unfoldable pub raw_cell : List ℕ → Layout → Token → ℕ → Option ℕ
raw_cell stream l token i = option_and_then
    (λ column. if stream_has_row l token then number_of_width (width_of l.shape column) stream (cell_place l token i)
    else None) (column_in token.table i)

-- the rows stand in the stream
abbrev pub IsWithin : List ℕ → Layout → Type 0
IsWithin stream l = table_start l 64 ≤ length stream

-- the starts are those of the tables, which have fewer than 2^24 rows each
pub record IsLaidOut (l : Layout) (starts : List ℕ) : Type 0 where
  pub begin : (k : ℕ) → k < 64 → slice_index starts k ≡ table_start l k
  pub few : (k : ℕ) → rows_of l k < 2 ^ 24
  pub tables : length l.counts ≡ 64
