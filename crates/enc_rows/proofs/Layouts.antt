-- How a stream that is written is laid out: where its parts stand, and that its header tells them.
use Rattle.std.proofs.Common.{◌≡◌, ℕ, zero, suc, ◌+◌, ◌*◌, ◌/◌, ◌%◌, ◌<◌, ◌≤◌, Bool, true, false, List, [], ◌∷◌, ◌++◌, length, map, get_or, replicate, refl, sym, ap, ◌∙◌, arith, length-append}
use Rattle.std.specs.Prelude.{Option, Some, option_and_then, unwrap_or, flat_map, slice_get, slice_index, IsTrue, nat_lt, nat_le, ◌==◌, if◌then◌else◌}
use Rattle.std.specs.List.{list_all}
use Rattle.std.specs.Int.{w32, w64, to_le_bytes}
use Rattle.std.proofs.lemmas.Bool.{lt-ltb, le-leb, ltb-false, and_from}
use Rattle.std.proofs.lemmas.List.{get_or-replicate}
use Rattle.std.proofs.lemmas.List.FromFn.{get_or-map-range_with_len, length-map-range_with_len}
use Rattle.enc_base.specs.Numbers.{little_endian_at}
use Rattle.enc_meta.specs.declared.span.Span.{Span}
use Rattle.enc_schema.specs.Schema.{columns_in}
use Rattle.enc_schema.specs.Widths.{row_width}
use Rattle.enc_rows.specs.Sums.{below}
use Rattle.enc_rows.specs.declared.form.Form.{Form}
use Rattle.enc_base.specs.Tables.{table_count}
use Rattle.enc_rows.specs.Layout.{Layout, one, has_table, tables_below, count_in, width_count, rows_begin, table_bytes, table_start, form_allows, laid_out, is_whole, whole_layout, layout_of}
use Rattle.enc_rows.specs.Written.{rows_at, count_at, counts_of, valid_of, shape_of, table_written, count_written, more_data, header_written, stream_of, AreRows, layout_written}
use Rattle.enc_rows.proofs.Below.{sum_none, sum_more, filled_below}
use Rattle.enc_rows.proofs.Pieces.{pieces_none, pieces_more}
use Rattle.enc_rows.proofs.Bits.{valid_tells, valid_few}
use Rattle.enc_rows.proofs.Stands.{StandsAt, at_front, at_back, moved, within, more_behind, piece_stands, pieces_length, four_there, eight_there}
use Rattle.enc_rows.proofs.Lengths.{rows_length}
use Rattle.enc_rows.proofs.Whole.{laid_is, whole_yes}

-- the number of rows of one of the 64 tables
pub count_is : (all : List (List (List ℕ))) (t : ℕ) → t < 64 → slice_index (counts_of all) t ≡ count_at all t
unfolding counts_of below
count_is all t lt = get_or-map-range_with_len (count_at all) 0 64 t t 0 lt (omega arith)

listed : (f : ℕ → ℕ) (n k : ℕ) → k < n → get_or (map f (below n)) k 0 ≡ f k
unfolding below
listed f n k lt = get_or-map-range_with_len f 0 n k k 0 lt (omega arith)

-- functions that agree on the numbers below one list the same
same_below : (f g : ℕ → ℕ) (n : ℕ) → ((k : ℕ) → k < n → f k ≡ g k) → map f (below n) ≡ map g (below n)
same_below f g n same =
    filled_below g (map f (below n)) n (unfold below in length-map-range_with_len f 0 n) (λ k lt. listed f n k lt ∙ same k lt)

tables_none : (valid : ℕ) → tables_below valid 0 ≡ 0
unfolding tables_below
tables_none valid = sum_none _

tables_more : (valid n : ℕ) → tables_below valid (n + 1) ≡ tables_below valid n + one (has_table valid n)
unfolding tables_below
tables_more valid n = sum_more _ n

where_length : (b : Bool) (n : ℕ) → length (if b then to_le_bytes w32 n else []) ≡ 4 * one b
where_length true n = refl
where_length false n = refl

-- the numbers of rows that are written are four bytes for each table that is there
pub counts_length : (all : List (List (List ℕ))) (t : ℕ) → t ≤ 64 → length (flat_map (count_written all) (below t)) ≡ 4 * tables_below (valid_of all) t
counts_length all zero le = ap (λ (xs : List ℕ). length xs) (pieces_none (count_written all) []) ∙ omega (arith, tables_none (valid_of all))
counts_length all (suc t) le =
    let e : suc t ≡ t + 1 = omega arith in
    let there : one (has_table (valid_of all) t) ≡ one (nat_lt 0 (count_at all t)) = ap one (valid_tells all t (omega arith)) in
    let here : length (count_written all t) ≡ 4 * one (nat_lt 0 (count_at all t)) = where_length (nat_lt 0 (count_at all t)) (count_at all t) in
    rw (e, pieces_more (count_written all) t) (length-append (flat_map (count_written all) (below t)) (count_written all t) ∙ omega (arith, counts_length all t (omega arith), tables_more (valid_of all) t))

header_length : (valid flags : ℕ) → length (header_written valid flags) ≡ 24
header_length valid flags = refl

valid_stands : (valid flags : ℕ) → StandsAt (to_le_bytes w64 valid) (header_written valid flags) 8
valid_stands valid flags = record { before = 0 ∷ 0 ∷ 0 ∷ 0 ∷ 2 ∷ 0 ∷ flags ∷ 1 ∷ []; after = replicate 8 0; split = refl; place = refl }

extra_length : (b : Bool) → length {A = ℕ} (if b then replicate 4 0 else []) ≡ (if b then 4 else 0)
extra_length true = refl
extra_length false = refl

-- where the parts of the stream stand: its header, the numbers of rows, and the rows
pub header_stands : (all : List (List (List ℕ))) (jtd : Bool) (flags : ℕ) → StandsAt (header_written (valid_of all) flags) (stream_of all jtd flags) 0
unfolding stream_of
header_stands all jtd flags =
    let header = header_written (valid_of all) flags in
    let counts = flat_map (count_written all) (below 64) in
    more_behind header ((header ++ counts) ++ more_data flags) _ 0 (more_behind header (header ++ counts) (more_data flags) 0 (at_front header counts))

pub counts_stand : (all : List (List (List ℕ))) (jtd : Bool) (flags : ℕ) → StandsAt (flat_map (count_written all) (below 64)) (stream_of all jtd flags) 24
unfolding stream_of
counts_stand all jtd flags =
    let header = header_written (valid_of all) flags in
    let counts = flat_map (count_written all) (below 64) in
    more_behind counts ((header ++ counts) ++ more_data flags) _ 24 (more_behind counts (header ++ counts) (more_data flags) 24 (moved counts (header ++ counts) _ 24 (at_back header counts) (header_length (valid_of all) flags)))

front_length : (all : List (List (List ℕ))) (flags : ℕ) → length ((header_written (valid_of all) flags ++ flat_map (count_written all) (below 64)) ++ more_data flags) ≡ rows_begin (valid_of all) flags
unfolding rows_begin
front_length all flags =
    let header = header_written (valid_of all) flags in
    let counts = flat_map (count_written all) (below 64) in
    omega (arith, length-append (header ++ counts) (more_data flags), length-append header counts, header_length (valid_of all) flags, counts_length all 64 (omega arith), extra_length (flags / 0x40 % 2 == 1))

pub rows_stand : (all : List (List (List ℕ))) (jtd : Bool) (flags : ℕ) → StandsAt (flat_map (table_written all (shape_of all jtd flags)) (below 64)) (stream_of all jtd flags) (rows_begin (valid_of all) flags)
unfolding stream_of
rows_stand all jtd flags =
    let front = (header_written (valid_of all) flags ++ flat_map (count_written all) (below 64)) ++ more_data flags in
    let rows = flat_map (table_written all (shape_of all jtd flags)) (below 64) in
    moved rows (front ++ rows) _ _ (at_back front rows) (front_length all flags)

-- the number of rows of a table that is there is read back
bytes_where : (b : Bool) (n : ℕ) (stream : List ℕ) (at : ℕ) → b ≡ true → StandsAt (if b then to_le_bytes w32 n else []) stream at → StandsAt (to_le_bytes w32 n) stream at
bytes_where b n stream at e s = rw e at s

count_by : (there : Bool) (n : ℕ) (o : Option ℕ) → there ≡ nat_lt 0 n → (nat_lt 0 n ≡ true → o ≡ Some n) → (if there then unwrap_or o 0 else 0) ≡ n
count_by true n o e read = ap (λ (r : Option ℕ). unwrap_or r 0) (read (sym e))
count_by false n o e read = omega (arith, ltb-false 0 n (sym e))

pub count_read : (all : List (List (List ℕ))) (jtd : Bool) (flags t : ℕ) → AreRows all → t < 64 → count_in (stream_of all jtd flags) (valid_of all) t ≡ count_at all t
unfolding count_in
count_read all jtd flags t rows lt =
    let stream = stream_of all jtd flags in
    let at = 24 + 4 * tables_below (valid_of all) t in
    let piece : StandsAt (count_written all t) (flat_map (count_written all) (below 64)) (4 * tables_below (valid_of all) t) = moved _ _ _ _ (piece_stands (count_written all) 64 t lt) (counts_length all t (omega arith)) in
    let there : StandsAt (count_written all t) stream at = within _ _ stream _ 24 piece (counts_stand all jtd flags) in
    count_by (has_table (valid_of all) t) (count_at all t) (little_endian_at w32 stream at) (valid_tells all t lt) (λ some. four_there (count_at all t) stream at (omega (arith, rows.few t)) (bytes_where (nat_lt 0 (count_at all t)) (count_at all t) stream at some there))

width_by : (there : Bool) (n x y : ℕ) → there ≡ nat_lt 0 n → x ≡ n → y ≡ 0 → (if there then x else y) ≡ n
width_by true n x y e a b = a
width_by false n x y e a b = omega (arith, ltb-false 0 n (sym e))

none_by : (b : Bool) (n : ℕ) → n ≡ 0 → (if b then n else 0) ≡ 0
none_by true n e = e
none_by false n e = refl

width_read : (all : List (List (List ℕ))) (jtd : Bool) (flags t : ℕ) → AreRows all → t < 64 → width_count (stream_of all jtd flags) (valid_of all) (replicate 64 0) t ≡ count_at all t
unfolding width_count
width_read all jtd flags t rows lt =
    width_by (has_table (valid_of all) t) (count_at all t) _ _ (valid_tells all t lt) (count_read all jtd flags t rows lt) (none_by (nat_lt t table_count) _ (get_or-replicate 64 t 0 0 lt))

-- a table is as long as its layout says, and so are all of them
pub table_length : (all : List (List (List ℕ))) (span : Span) (jtd : Bool) (flags t : ℕ) → AreRows all → t < 64 → length (table_written all (shape_of all jtd flags) t) ≡ table_bytes (layout_written all span jtd flags) t
unfolding table_written row_width
table_length all span jtd flags t rows lt =
    let s = shape_of all jtd flags in
    rows_length s (columns_in t) (rows_at all t) (rows.cells t) ∙ ap (λ n. n * row_width s t) (sym (count_is all t lt))

rows_behind : (all : List (List (List ℕ))) (jtd : Bool) (flags : ℕ) → length (stream_of all jtd flags) ≡ rows_begin (valid_of all) flags + length (flat_map (table_written all (shape_of all jtd flags)) (below 64))
unfolding stream_of
rows_behind all jtd flags =
    let front = (header_written (valid_of all) flags ++ flat_map (count_written all) (below 64)) ++ more_data flags in
    let rows = flat_map (table_written all (shape_of all jtd flags)) (below 64) in
    length-append front rows ∙ ap (λ n. n + length rows) (front_length all flags)

pub stream_length : (all : List (List (List ℕ))) (span : Span) (jtd : Bool) (flags : ℕ) → AreRows all → length (stream_of all jtd flags) ≡ table_start (layout_written all span jtd flags) 64
unfolding table_start
stream_length all span jtd flags rows =
    let layout = layout_written all span jtd flags in
    rows_behind all jtd flags ∙ ap (λ n. rows_begin (valid_of all) flags + n) (pieces_length (table_written all (shape_of all jtd flags)) (table_bytes layout) 64 (λ k lt. table_length all span jtd flags k rows lt))

-- the header tells the layout
laid : (all : List (List (List ℕ))) (span : Span) (jtd : Bool) (flags : ℕ) → AreRows all → layout_written all span jtd flags ≡ laid_out (stream_of all jtd flags) span (valid_of all) flags jtd (replicate 64 0)
laid all span jtd flags rows =
    let stream = stream_of all jtd flags in
    let counts : counts_of all ≡ map (count_in stream (valid_of all)) (below 64) = unfold counts_of in sym (same_below (count_in stream (valid_of all)) (count_at all) 64 (λ k lt. count_read all jtd flags k rows lt)) in
    let wide : counts_of all ≡ map (width_count stream (valid_of all) (replicate 64 0)) (below 64) = unfold counts_of in sym (same_below (width_count stream (valid_of all) (replicate 64 0)) (count_at all) 64 (λ k lt. width_read all jtd flags k rows lt)) in
    laid_is stream span (valid_of all) flags jtd (replicate 64 0) (counts_of all) (counts_of all) (shape_of all jtd flags) (rows_begin (valid_of all) flags) counts refl wide refl

layout_by : (stream : List ℕ) (span : Span) (form : Form) (jtd : Bool) (outer : List ℕ) (valid flags : ℕ) (o : Option Layout) → little_endian_at w64 stream 8 ≡ Some valid → slice_get stream 6 ≡ Some flags → whole_layout stream form valid (laid_out stream span valid flags jtd outer) ≡ o → layout_of stream span form jtd outer ≡ o
unfolding layout_of
layout_by stream span form jtd outer valid flags o a b c =
    ap (λ (v : Option ℕ). option_and_then {T = ℕ} {U = Layout} (λ n. option_and_then {T = ℕ} {U = Layout} (λ m. whole_layout stream form n (laid_out stream span n m jtd outer)) (slice_get stream 6)) v) a
    ∙ ap (λ (v : Option ℕ). option_and_then {T = ℕ} {U = Layout} (λ m. whole_layout stream form valid (laid_out stream span valid m jtd outer)) v) b
    ∙ c

valid_there : (all : List (List (List ℕ))) (jtd : Bool) (flags : ℕ) → little_endian_at w64 (stream_of all jtd flags) 8 ≡ Some (valid_of all)
valid_there all jtd flags = eight_there (valid_of all) (stream_of all jtd flags) 8 (valid_few all) (within _ _ _ 8 0 (valid_stands (valid_of all) flags) (header_stands all jtd flags))

flags_there : (all : List (List (List ℕ))) (jtd : Bool) (flags : ℕ) → slice_get (stream_of all jtd flags) 6 ≡ Some flags
unfolding stream_of
flags_there all jtd flags = refl

few_all : (p : ℕ → Bool) (f : ℕ → ℕ) (xs : List ℕ) → ((k : ℕ) → p (f k) ≡ true) → list_all p (map f xs) ≡ true
few_all p f [] each = refl
few_all p f (x ∷ xs) each = and_from _ _ (each x) (few_all p f xs each)

counts_few : (all : List (List (List ℕ))) → AreRows all → list_all (λ n. nat_lt n 0x1000000) (counts_of all) ≡ true
unfolding counts_of
counts_few all rows = few_all (λ n. nat_lt n 0x1000000) (count_at all) (below 64) (λ k. lt-ltb _ _ (rows.few k))

pub stream_read : (all : List (List (List ℕ))) (span : Span) (form : Form) (jtd : Bool) (flags : ℕ) → AreRows all → IsTrue (form_allows form (valid_of all) (counts_of all)) → layout_of (stream_of all jtd flags) span form jtd (replicate 64 0) ≡ Some (layout_written all span jtd flags)
stream_read all span form jtd flags rows allowed =
    let stream = stream_of all jtd flags in
    let layout = layout_written all span jtd flags in
    let start : nat_le (rows_begin (valid_of all) flags) (length stream) ≡ true = le-leb _ _ (omega (arith, rows_behind all jtd flags)) in
    let end : nat_le (table_start layout 64) (length stream) ≡ true = le-leb _ _ (omega (arith, stream_length all span jtd flags rows)) in
    let whole : is_whole (length stream) form (valid_of all) layout.counts layout.first (table_start layout 64) ≡ true = and_from _ _ (and_from _ _ (and_from _ _ start (counts_few all rows)) allowed) end in
    layout_by stream span form jtd (replicate 64 0) (valid_of all) flags (Some layout) (valid_there all jtd flags) (flags_there all jtd flags) (sym (whole_yes stream form (valid_of all) (table_start layout 64) layout _ (laid all span jtd flags rows) refl (sym whole)))
