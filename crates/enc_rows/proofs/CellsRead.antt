-- Every number of a stream that is written is read back.
use Rattle.std.proofs.Common.{◌≡◌, ℕ, ◌+◌, ◌-◌, ◌*◌, ◌<◌, ◌≤◌, Bool, inl, inr, None, get_or, unwrap_or, List, [], length, refl, sym, ap, arith, le-leb, lt-ltb}
use Rattle.std.specs.Prelude.{Option, Some, slice_get, IsTrue}
use Rattle.std.proofs.lemmas.Bool.{cases_lt, and_from, eqb-true}
use Rattle.std.proofs.lemmas.Option.{slice_get-get_or, slice_get_within, slice_get_past, get_or_from_slice_get}
use Rattle.enc_base.specs.Token.{nth_row}
use Rattle.enc_meta.specs.declared.span.Span.{Span}
use Rattle.enc_schema.specs.declared.column.Column.{Column}
use Rattle.enc_schema.specs.declared.column.Column.TheVariants.{Num8}
use Rattle.enc_schema.specs.Schema.{columns_in, column_in}
use Rattle.enc_schema.specs.Widths.{Shape, width_of, row_width, column_start}
use Rattle.enc_rows.specs.Layout.{Layout, rows_of, table_bytes, table_start, cell_place, stream_has_row, raw_cell, rows_begin}
use Rattle.enc_rows.specs.Written.{rows_at, valid_of, shape_of, cell_bytes, row_bytes, table_written, stream_of, has_cells, row_fits, AreRows, AllFit, layout_written}
use Rattle.enc_rows.proofs.Places.{raw_is}
use Rattle.enc_rows.proofs.Cells.{all_item, cell_fits}
use Rattle.enc_rows.proofs.Stands.{StandsAt, moved, within, piece_stands, pieces_length}
use Rattle.enc_rows.proofs.Lengths.{cell_stands, row_stands, cell_read}
use Rattle.enc_rows.proofs.Layouts.{count_is, rows_stand, table_length}

-- a table that has a row is one of the 64
row_there : (all : List (List (List ℕ))) (t n : ℕ) (cells : List ℕ) → AreRows all → slice_get (rows_at all t) n ≡ Some cells → t < 64
row_there all t n cells rows row = elim (cases_lt t 64) [
  | inl h ↦ h
  | inr h ↦
      let past : length all ≤ t = omega (arith, rows.tables) in
      let none : rows_at all t ≡ [] = ap (λ (o : Option (List (List ℕ))). unwrap_or o []) (slice_get_past all t past) in
      let bad : None ≡ Some cells = rw none at row in
      absurd (cc)
]

-- the rows of a table stand behind those of the tables before it
table_stands : (all : List (List (List ℕ))) (span : Span) (jtd : Bool) (flags t : ℕ) → AreRows all → t < 64 → StandsAt (table_written all (shape_of all jtd flags) t) (stream_of all jtd flags) (table_start (layout_written all span jtd flags) t)
unfolding table_start
table_stands all span jtd flags t rows lt =
    let written = table_written all (shape_of all jtd flags) in
    let layout = layout_written all span jtd flags in
    moved _ _ _ _ (within _ _ _ _ _ (piece_stands written 64 t lt) (rows_stand all jtd flags)) (ap (λ n. rows_begin (valid_of all) flags + n) (pieces_length written (table_bytes layout) t (λ k low. table_length all span jtd flags k rows (omega arith))))

row_in_table : (all : List (List (List ℕ))) (s : Shape) (t n : ℕ) (cells : List ℕ) → AreRows all → slice_get (rows_at all t) n ≡ Some cells → StandsAt (row_bytes s (columns_in t) cells) (table_written all s t) (n * row_width s t)
unfolding table_written row_width
row_in_table all s t n cells rows row = row_stands s (columns_in t) (rows_at all t) n cells (rows.cells t) row

cell_in_row : (s : Shape) (t i : ℕ) (cells : List ℕ) (c : Column) (x : ℕ) → column_in t i ≡ Some c → slice_get cells i ≡ Some x → StandsAt (cell_bytes s c x) (row_bytes s (columns_in t) cells) (column_start s t i)
unfolding column_start
cell_in_row s t i cells c x column cell = cell_stands s (columns_in t) cells i c x column cell

place_of : (l : Layout) (t n i : ℕ) → table_start l t + (n * row_width l.shape t + column_start l.shape t i) ≡ cell_place l (nth_row t n) i
unfolding cell_place
place_of l t n i = let e : n + 1 - 1 ≡ n = omega arith in rw e (omega arith)

-- so the bytes of a number stand in its cell
pub cell_in_stream : (all : List (List (List ℕ))) (span : Span) (jtd : Bool) (flags t n i : ℕ) (cells : List ℕ) (c : Column) (x : ℕ) → AreRows all → t < 64 → slice_get (rows_at all t) n ≡ Some cells → column_in t i ≡ Some c → slice_get cells i ≡ Some x → StandsAt (cell_bytes (shape_of all jtd flags) c x) (stream_of all jtd flags) (cell_place (layout_written all span jtd flags) (nth_row t n) i)
cell_in_stream all span jtd flags t n i cells c x rows lt row column cell =
    let s = shape_of all jtd flags in
    let in_table = within (cell_bytes s c x) (row_bytes s (columns_in t) cells) (table_written all s t) (column_start s t i) (n * row_width s t) (cell_in_row s t i cells c x column cell) (row_in_table all s t n cells rows row) in
    moved _ _ _ _ (within _ _ _ _ _ in_table (table_stands all span jtd flags t rows lt)) (place_of (layout_written all span jtd flags) t n i)

-- and it is read there
pub number_read : (all : List (List (List ℕ))) (span : Span) (jtd : Bool) (flags t n i : ℕ) (cells : List ℕ) (x : ℕ) → AreRows all → AllFit all jtd flags → slice_get (rows_at all t) n ≡ Some cells → slice_get cells i ≡ Some x → raw_cell (stream_of all jtd flags) (layout_written all span jtd flags) (nth_row t n) i ≡ Some x
number_read all span jtd flags t n i cells x rows fit row cell =
    let s = shape_of all jtd flags in
    let layout = layout_written all span jtd flags in
    let low = row_there all t n cells rows row in
    let n_low = slice_get_within (rows_at all t) n cells row in
    let i_low = slice_get_within cells i x cell in
    let is = sym (get_or_from_slice_get (rows_at all t) n cells cells row) in
    let len : length cells ≡ length (columns_in t) = eqb-true _ _ (all_item (has_cells (columns_in t)) (rows_at all t) n cells (rows.cells t) n_low is) in
    let c = get_or (columns_in t) i Num8 in
    let column : column_in t i ≡ Some c = slice_get-get_or (columns_in t) i Num8 (omega arith) in
    let fits_row = all_item (row_fits s (columns_in t)) (rows_at all t) n cells (fit.each t) n_low is in
    let fits_cell = cell_fits s (columns_in t) cells i c x fits_row column cell in
    let there : IsTrue (stream_has_row layout (nth_row t n)) = and_from _ _ (lt-ltb 0 (n + 1) (omega arith)) (le-leb (n + 1) (rows_of layout t) (omega (arith, count_is all t low))) in
    let place = cell_place layout (nth_row t n) i in
    let read = cell_read s c x (stream_of all jtd flags) place fits_cell (cell_in_stream all span jtd flags t n i cells c x rows low row column cell) in
    raw_is (stream_of all jtd flags) layout (nth_row t n) i (width_of s c) place x c column there refl refl read
