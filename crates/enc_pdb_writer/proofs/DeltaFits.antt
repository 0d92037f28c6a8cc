-- The root of a delta's PDB fits four bytes.
use Rattle.std.proofs.Common.{◌≡◌, ℕ, zero, suc, ◌+◌, ◌*◌, ◌<◌, ◌≤◌, Bool, true, false, List, [], ◌∷◌, length, flat_map, refl, ap, ◌∙◌, arith, length-append, inl, inr}
use Rattle.std.specs.Prelude.{◌^◌, ◌==◌, ◌/◌, ◌%◌, sum_by, codes, if◌then◌else◌}
use Rattle.std.specs.List.{list_all}
use Rattle.std.proofs.Math.Nat.{mul-le-mul}
use Rattle.std.proofs.lemmas.Bool.{and_parts}
use Rattle.std.proofs.lemmas.Bool.Decides.{nat_tests}
use Rattle.std.proofs.lemmas.List.Concat.{length-flat_map}
use Rattle.std.proofs.lemmas.List.Sums.{sum_by-cons}
use Rattle.enc_base.specs.Numbers.{padded}
use Rattle.enc_emit.specs.Written.{pdb_root_size, pdb_built_size}
use Rattle.enc_meta.specs.Built.{Built, AreWithinLimits, heaps_built, heap_bytes, guid_bytes, joined_end, text_bytes, user_bytes, blob_bytes}
use Rattle.enc_meta.specs.BuiltLaws.{IsGood}
use Rattle.enc_meta.specs.Heaps.{Counted}
use Rattle.enc_meta.specs.declared.span.Span.{Span}
use Rattle.enc_plain.specs.Debug.{PlainPdb}
use Rattle.enc_rows.specs.Layout.{has_table, one, tables_below, rows_begin, table_bytes, table_start}
use Rattle.enc_rows.specs.Sums.{sum_below}
use Rattle.enc_rows.specs.Written.{count_at, valid_of, stream_of, heap_bits, AreRows, layout_written}
use Rattle.enc_rows.proofs.Below.{sum_none, sum_suc}
use Rattle.enc_rows.proofs.Layouts.{count_is, stream_length}
use Rattle.enc_rows.proofs.Lengths.{Sizes, sizes}
use Rattle.enc_schema.specs.Schema.{columns_in}
use Rattle.enc_schema.specs.Widths.{Shape, width_of, space_of, row_width}
use Rattle.enc_schema.specs.declared.column.Column.{Column}
use Rattle.enc_ppdb.specs.Written.{pdb_starts}
use Rattle.enc_pdb_writer.specs.Holding.{HoldPdbDelta}

-- a column takes four bytes at most
four_most : (width space : ℕ) → Sizes width space → space ≤ 4
four_most width space (inl e) = omega (arith, e.1)
four_most width space (inr (inl e)) = omega (arith, e.1)
four_most width space (inr (inr e)) = omega (arith, e.1)

columns_few : (s : Shape) (columns : List Column) → sum_by (space_of s) columns ≤ 4 * length columns
columns_few s [] = omega arith
columns_few s (c ∷ columns) =
    let many : length (c ∷ columns) ≡ length columns + 1 = omega arith in
    rw (many, sum_by-cons (space_of s) c columns) (omega (arith, four_most (width_of s c) (space_of s c) (sizes s c), columns_few s columns))

table_few : (rows : List (List (List ℕ))) (span : Span) (flags t width : ℕ) → t < 64 → 4 * length (columns_in t) ≤ width → table_bytes (layout_written rows span false flags) t ≤ count_at rows t * width
unfolding row_width
table_few rows span flags t width low le =
    let l = layout_written rows span false flags in
    let same : count_at rows t ≤ count_at rows t = omega arith in
    let wide : sum_by (space_of l.shape) (columns_in t) ≤ width = omega (arith, columns_few l.shape (columns_in t), le) in
    rw (count_is rows t low) (mul-le-mul same wide)

document_columns : 4 * length (columns_in 0x30) ≤ 16
unfolding columns_in
document_columns = omega arith

method_columns : 4 * length (columns_in 0x31) ≤ 8
unfolding columns_in
method_columns = omega arith

map_columns : 4 * length (columns_in 0x1F) ≤ 4
unfolding columns_in
map_columns = omega arith

no_bytes : (rows : List (List (List ℕ))) (span : Span) (flags t : ℕ) → t < 64 → count_at rows t ≡ 0 → table_bytes (layout_written rows span false flags) t ≡ 0
no_bytes rows span flags t low none = ap (λ n. n * row_width (layout_written rows span false flags).shape t) (count_is rows t low ∙ none) ∙ omega arith

-- numbers that are 0 add nothing
sum_same : (f : ℕ → ℕ) (n m : ℕ) → ((k : ℕ) → n ≤ k → k < n + m → f k ≡ 0) → sum_below f (n + m) ≡ sum_below f n
sum_same f n zero each = let e : n + 0 ≡ n = omega arith in ap (sum_below f) e
sum_same f n (suc m) each =
    let e : n + suc m ≡ suc (n + m) = omega arith in
    ap (sum_below f) e ∙ sum_suc f (n + m) ∙ omega (arith, sum_same f n m (λ k low high. each k low (omega (arith, high))), each (n + m) (omega arith) (omega arith))

other_none : (p : PlainPdb) (numbers : List ℕ) (h : Built) (rows : List (List (List ℕ))) (t : ℕ) → HoldPdbDelta p numbers h rows → (t ≡ 0x30 → ⊥) → (t ≡ 0x31 → ⊥) → (t ≡ 0x1F → ⊥) → count_at rows t ≡ 0
other_none p numbers h rows t held a b c = held.others t (grind (arith, nat_tests, a)) (grind (arith, nat_tests, b)) (grind (arith, nat_tests, c))

tables_few : (p : PlainPdb) (numbers : List ℕ) (h : Built) (rows : List (List (List ℕ))) (span : Span) (flags : ℕ) → HoldPdbDelta p numbers h rows
    → sum_below (table_bytes (layout_written rows span false flags)) 64 ≤ count_at rows 0x1F * 4 + count_at rows 0x30 * 16 + count_at rows 0x31 * 8
tables_few p numbers h rows span flags held =
    let f = table_bytes (layout_written rows span false flags) in
    let none : (k : ℕ) → k < 64 → (k ≡ 0x30 → ⊥) → (k ≡ 0x31 → ⊥) → (k ≡ 0x1F → ⊥) → f k ≡ 0 = λ k low a b c. no_bytes rows span flags k low (other_none p numbers h rows k held a b c) in
    let first = sum_same f 0 0x1F (λ k low high. none k (omega (arith, high)) (λ e. omega (arith, e, high)) (λ e. omega (arith, e, high)) (λ e. omega (arith, e, high))) in
    let second = sum_same f 0x20 0x10 (λ k low high. none k (omega (arith, high)) (λ e. omega (arith, e, high)) (λ e. omega (arith, e, high)) (λ e. omega (arith, e, low))) in
    let last = sum_same f 0x32 14 (λ k low high. none k (omega (arith, high)) (λ e. omega (arith, e, low)) (λ e. omega (arith, e, low)) (λ e. omega (arith, e, low))) in
    omega (
      arith,
      sum_none f,
      first,
      sum_suc f 0x1F,
      second,
      sum_suc f 0x30,
      sum_suc f 0x31,
      last,
      table_few rows span flags 0x1F 4 (omega arith) map_columns,
      table_few rows span flags 0x30 16 (omega arith) document_columns,
      table_few rows span flags 0x31 8 (omega arith) method_columns,
    )

one_most : (b : Bool) → one b ≤ 1
one_most true = omega arith
one_most false = omega arith

ones_few : (f : ℕ → Bool) (n : ℕ) → sum_below (λ k. one (f k)) n ≤ n
ones_few f zero = omega (arith, sum_none (λ k. one (f k)))
ones_few f (suc n) = omega (arith, sum_suc (λ k. one (f k)) n, ones_few f n, one_most (f n))

begin_few : (valid flags : ℕ) → rows_begin valid flags ≤ 284
unfolding rows_begin tables_below
begin_few valid flags = by (flags / 0x40 % 2 == 1)
  where
    by : (b : Bool) → 24 + 4 * sum_below (λ k. one (has_table valid k)) 64 + (if b then 4 else 0) ≤ 284
    by true = omega (arith, ones_few (has_table valid) 64)
    by false = omega (arith, ones_few (has_table valid) 64)

stream_few : (p : PlainPdb) (numbers : List ℕ) (h : Built) (rows : List (List (List ℕ))) (flags : ℕ) → AreRows rows → HoldPdbDelta p numbers h rows
    → length (stream_of rows false flags) ≤ 284 + (count_at rows 0x1F * 4 + count_at rows 0x30 * 16 + count_at rows 0x31 * 8)
unfolding table_start
stream_few p numbers h rows flags are held =
    let nowhere : Span = record { start = 0; len = 0 } in
    omega (arith, stream_length rows nowhere false flags are, begin_few (valid_of rows) flags, tables_few p numbers h rows nowhere flags held)

-- the bytes of the heaps
heap_length : (encode : List ℕ → List ℕ) (values : List (List ℕ)) → length (heap_bytes encode values) ≡ joined_end encode 0 values
unfolding heap_bytes joined_end
heap_length encode values =
    let e : length (0 ∷ flat_map encode values) ≡ length (flat_map encode values) + 1 = omega arith in
    e ∙ omega (arith, length-flat_map encode values)

guids_by : (guids : List (List ℕ)) → list_all (λ (v : List ℕ). length v == 16) guids ≡ true → length (flat_map (λ (g : List ℕ). g) guids) ≡ 16 * length guids
guids_by [] all = refl
guids_by (g ∷ guids) all =
    let parts = and_parts (length g == 16) (list_all (λ (v : List ℕ). length v == 16) guids) all in
    let sixteen : length g ≡ 16 = grind (arith, nat_tests, parts.0) in
    let many : length (g ∷ guids) ≡ length guids + 1 = omega arith in
    rw (many, length-append g (flat_map (λ (v : List ℕ). v) guids)) (omega (arith, sixteen, guids_by guids parts.1))

guids_length : (guids : List (List ℕ)) → list_all (λ (v : List ℕ). length v == 16) guids ≡ true → length (guid_bytes 0 guids) ≡ 16 * length guids
unfolding guid_bytes
guids_length guids all = guids_by guids all

heaps_few : (h : Built) → h.starts ≡ pdb_starts → IsGood h → AreWithinLimits h
    → length (heaps_built h).strings + length (heaps_built h).users + length (heaps_built h).blobs + length (heaps_built h).guids ≤ 2 ^ 31
unfolding heaps_built
heaps_few h none good within =
    let a : h.starts.strings ≡ 0 = ap (λ s. s.strings) none in
    let b : h.starts.users ≡ 0 = ap (λ s. s.users) none in
    let c : h.starts.blobs ≡ 0 = ap (λ s. s.blobs) none in
    let d : h.starts.guids ≡ 0 = ap (λ s. s.guids) none in
    let texts = ap (λ n. joined_end text_bytes n h.texts) a in
    let users = ap (λ n. joined_end user_bytes n h.users) b in
    let blobs = ap (λ n. joined_end blob_bytes n h.blobs) c in
    let guids = ap (λ n. length (guid_bytes n h.guids)) d in
    omega (arith, heap_length text_bytes h.texts, texts, within.texts, a, heap_length user_bytes h.users, users, within.users, b, heap_length blob_bytes h.blobs, blobs, within.blobs, c, guids, guids_length h.guids good.guids, within.guids, d)

padded_few : (n : ℕ) → (n ≤ padded n) × (padded n ≤ n + 3)
unfolding padded
padded_few n = (omega arith, omega arith)

size_few : (pdb stream : List ℕ) (h : Counted) → pdb_root_size pdb stream h ≤ length pdb + length stream + length h.strings + length h.users + length h.blobs + length h.guids + 160
size_few pdb stream h =
    omega (arith, padded_few (length pdb), padded_few (length stream), padded_few (length h.strings), padded_few (length h.users), padded_few (length h.guids), padded_few (length h.blobs), padded_few (length (codes "#Pdb") + 1))

pub delta_root_fits : (p : PlainPdb) (numbers : List ℕ) (h : Built) (rows : List (List (List ℕ))) (pdb : List ℕ) → HoldPdbDelta p numbers h rows → IsGood h → AreWithinLimits h → AreRows rows → count_at rows 0x30 < 2 ^ 23 → length pdb ≡ 32
    → pdb_built_size (record { heaps = h; rows = rows }) pdb < 2 ^ 32
delta_root_fits p numbers h rows pdb held good within are documents long =
    let stream = stream_of rows false (heap_bits rows) in
    omega (arith, size_few pdb stream (heaps_built h), stream_few p numbers h rows (heap_bits rows) are held, heaps_few h held.starts good within, are.few 0x1F, are.few 0x31, documents, long)
