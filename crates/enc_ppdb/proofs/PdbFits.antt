-- The rows of a PDB that is written fit their columns, and its root fits four bytes.
use Rattle.std.proofs.Common.{◌≡◌, ℕ, zero, suc, ◌+◌, ◌*◌, ◌≤◌, ◌<◌, Bool, true, false, ◌⊎◌, inl, inr, List, [], ◌∷◌, ◌++◌, length, map, replicate, flat_map, Option, Some, refl, sym, ap, subst, ◌∙◌, arith, length-append}
use Rattle.std.specs.Prelude.{◌^◌, ◌==◌, ◌/◌, ◌%◌, nat_lt, sum_by, codes, if◌then◌else◌, slice_get, slice_index}
use Rattle.std.specs.List.{list_all}
use Rattle.std.specs.Int.{w32, to_le_bytes}
use Rattle.std.proofs.Math.Nat.{mul-le-mul}
use Rattle.std.proofs.lemmas.Bool.Decides.{nat_tests}
use Rattle.std.proofs.lemmas.List.{length-map}
use Rattle.std.proofs.lemmas.List.Sums.{sum_by-cons}
use Rattle.enc_emit.specs.Written.{has_ptr_rows, pdb_root_size, pdb_built_size, pdb_root_built}
use Rattle.enc_meta.specs.Built.{Built, AreWithinLimits, heaps_built, guid_bytes, joined_end, joined_size, text_bytes, user_bytes, blob_bytes}
use Rattle.enc_meta.specs.BuiltLaws.{IsGood}
use Rattle.enc_meta.specs.Heaps.{Counted}
use Rattle.enc_meta.specs.declared.heaps.HeapLengths.{HeapLengths}
use Rattle.enc_plain.specs.Debug.{Document, PlainPdb}
use Rattle.enc_rows.specs.Sums.{below, sum_below}
use Rattle.enc_rows.specs.Written.{rows_at, count_at, counts_of, valid_of, shape_of, table_written, count_written, more_data, header_written, stream_of, heap_bits, fits, index_fits, row_indices_fit, AreRows, IndicesFit}
use Rattle.enc_rows.proofs.Below.{sum_none, sum_suc}
use Rattle.enc_rows.proofs.Layouts.{count_is}
use Rattle.enc_rows.proofs.Lengths.{Sizes, sizes, rows_length}
use Rattle.enc_rows.proofs.Stands.{pieces_length}
use Rattle.enc_schema.specs.Schema.{columns_in}
use Rattle.enc_schema.specs.Widths.{Shape, narrow, index_width, width_of, space_of}
use Rattle.enc_schema.specs.declared.column.Column.TheVariants.{Guid, Blob, Index}
use Rattle.enc_ppdb.specs.declared.writer.Writer.{Writer}
use Rattle.enc_ppdb.specs.Written.{documents_of, document_weight, pdb_weight, pdb_starts, pdb_stream, HoldPdb}
use Rattle.enc_ppdb.specs.Holding.{document_cells, heaps_size, pdb_weight_of, IsWritten}
use Rattle.enc_ppdb.proofs.RootSizes.{padded_few, pdb_root_length, heap_is, guids_are, heaps_are}

all_from : {X : Type 0} (test : X → Bool) (xs : List X) → ((k : ℕ) (x : X) → slice_get xs k ≡ Some x → test x ≡ true) → list_all test xs ≡ true
all_from test [] each = refl
all_from test (x ∷ xs) each = rw (each 0 x refl, all_from test xs (λ k y at. each (suc k) y at)) refl

all_mapped : {X Y : Type 0} (test : Y → Bool) (f : X → Y) (xs : List X) → ((x : X) → test (f x) ≡ true) → list_all test (map f xs) ≡ true
all_mapped test f [] each = refl
all_mapped test f (x ∷ xs) each = rw (each x, all_mapped test f xs each) refl

empty : {X : Type 0} (xs : List X) → length xs ≡ 0 → xs ≡ []
empty [] h = refl
empty (x ∷ xs) h = absurd (omega (arith, h))

document_fits : (s : Shape) (h : Built) (d : Document) → row_indices_fit s (columns_in 0x30) (document_cells h d) ≡ true
unfolding row_indices_fit index_fits document_cells columns_in
document_fits s h d = refl

method_fits : (s : Shape) (first offset : ℕ) → fits s (Index 0x30) first ≡ true → row_indices_fit s (columns_in 0x31) (first ∷ offset ∷ []) ≡ true
unfolding row_indices_fit index_fits columns_in
method_fits s first offset fit = rw fit refl

narrow_fits : (first count : ℕ) (b : Bool) → nat_lt count 0x10000 ≡ b → first ≤ count → count < 2 ^ 24 → nat_lt first (2 ^ (8 * narrow b)) ≡ true
narrow_fits first count true is low few = grind (arith, nat_tests, is, low)
narrow_fits first count false is low few = grind (arith, nat_tests, low, few)

index_fit : (rows : List (List (List ℕ))) (first : ℕ) → slice_index (counts_of rows) 0x30 ≡ count_at rows 0x30 → first ≤ count_at rows 0x30 → count_at rows 0x30 < 2 ^ 24 → fits (shape_of rows false 0) (Index 0x30) first ≡ true
unfolding fits index_width
index_fit rows first is low few =
    let count = slice_index (counts_of rows) 0x30 in
    narrow_fits first count (nat_lt count 0x10000) refl (omega (arith, is, low)) (omega (arith, is, few))

documents_few : (documents : List Document) → 96 * length documents ≤ sum_by document_weight documents
documents_few [] = omega arith
documents_few (d ∷ documents) =
    let many : length (d ∷ documents) ≡ length documents + 1 = omega arith in
    rw (many, sum_by-cons document_weight d documents) (omega (arith, documents_few documents))

count_few : (p : PlainPdb) (placed : ℕ → Option Document) (n : ℕ) (w : Writer) → IsWritten p n n 0 placed (documents_of p n) w → (count_at w.tables 0x30 ≡ length (documents_of p n)) × (96 * count_at w.tables 0x30 ≤ 2 ^ 29)
unfolding pdb_weight_of
count_few p placed n w so =
    let many : count_at w.tables 0x30 ≡ length (documents_of p n) = ap length so.held.rows ∙ length-map (documents_of p n) (document_cells w.heaps) in
    (many, omega (arith, many, documents_few (documents_of p n), so.weight, so.light))

counts_there : (rows : List (List (List ℕ))) → slice_index (counts_of rows) 0x30 ≡ count_at rows 0x30
counts_there rows = count_is rows 0x30 (omega arith)

table_fits : (p : PlainPdb) (placed : ℕ → Option Document) (n table : ℕ) (w : Writer) (a b : Bool) → (table == 0x30) ≡ a → (table == 0x31) ≡ b → IsWritten p n n 0 placed (documents_of p n) w
    → list_all (row_indices_fit (shape_of w.tables false 0) (columns_in table)) (rows_at w.tables table) ≡ true
table_fits p placed n table w true b is other so =
    let e : 0x30 ≡ table = grind (arith, nat_tests, is) in
    let s = shape_of w.tables false 0 in
    subst (λ t. list_all (row_indices_fit s (columns_in t)) (rows_at w.tables t) ≡ true) e
    (ap (λ rows. list_all (row_indices_fit s (columns_in 0x30)) rows) so.held.rows ∙ all_mapped (row_indices_fit s (columns_in 0x30)) (document_cells w.heaps) (documents_of p n) (document_fits s w.heaps))
table_fits p placed n table w false true is other so =
    let e : 0x31 ≡ table = grind (arith, nat_tests, other) in
    let s = shape_of w.tables false 0 in
    let few = count_few p placed n w so in
    subst (λ t. list_all (row_indices_fit s (columns_in t)) (rows_at w.tables t) ≡ true) e
    (all_from (row_indices_fit s (columns_in 0x31)) (rows_at w.tables 0x31) (λ k cells at.
    let held = so.held.method k cells at in
    ap (λ c. row_indices_fit s (columns_in 0x31) c) held.cells ∙ method_fits s held.first _ (index_fit w.tables held.first (counts_there w.tables) (omega (arith, held.low, few.0)) (omega (arith, few.1)))))
table_fits p placed n table w false false is other so =
    let s = shape_of w.tables false 0 in
    ap (λ rows. list_all (row_indices_fit s (columns_in table)) rows) (empty (rows_at w.tables table) (so.held.others table is other))

pub indices_fit : (p : PlainPdb) (placed : ℕ → Option Document) (n : ℕ) (w : Writer) → IsWritten p n n 0 placed (documents_of p n) w → IndicesFit w.tables false
indices_fit p placed n w so = record { each = λ table. table_fits p placed n table w (table == 0x30) (table == 0x31) refl refl so }

pub documents_low : (p : PlainPdb) (placed : ℕ → Option Document) (n : ℕ) (w : Writer) → IsWritten p n n 0 placed (documents_of p n) w → count_at w.tables 0x30 < 2 ^ 23
documents_low p placed n w so = omega (arith, (count_few p placed n w so).1)

-- the heaps and the rows are within the weight
joined_few : (h : Built) → h.starts ≡ pdb_starts → h.texts ≡ [] → h.users ≡ [] → joined_size h ≡ heaps_size h + 2
unfolding joined_size heaps_size joined_end
joined_few h none texts users =
    let s : h.starts.strings ≡ 0 = ap (λ (x : HeapLengths). x.strings) none in
    let u : h.starts.users ≡ 0 = ap (λ (x : HeapLengths). x.users) none in
    let a : sum_by (λ (v : List ℕ). length (text_bytes v)) h.texts ≡ 0 = ap (sum_by (λ (v : List ℕ). length (text_bytes v))) texts in
    let b : sum_by (λ (v : List ℕ). length (user_bytes v)) h.users ≡ 0 = ap (sum_by (λ (v : List ℕ). length (user_bytes v))) users in
    omega (arith, s, u, a, b)

pub size_within : (p : PlainPdb) (placed : ℕ → Option Document) (n : ℕ) (w : Writer) → IsWritten p n n 0 placed (documents_of p n) w → joined_size w.heaps + 16 * count_at w.tables 0x30 + 8 * n + 65000 ≤ pdb_weight p n
unfolding pdb_weight pdb_weight_of
size_within p placed n w so = omega (arith, joined_few w.heaps so.held.starts so.held.texts so.held.users, so.held.size, so.weight, (count_few p placed n w so).0)

-- the bytes of the tables
abbrev table_size : List (List (List ℕ)) → Shape → ℕ → ℕ
table_size rows s t = count_at rows t * sum_by (space_of s) (columns_in t)

table_length : (rows : List (List (List ℕ))) (s : Shape) (t : ℕ) → AreRows rows → length (table_written rows s t) ≡ table_size rows s t
unfolding table_written
table_length rows s t are = rows_length s (columns_in t) (rows_at rows t) (are.cells t)

no_size : (rows : List (List (List ℕ))) (s : Shape) (t : ℕ) → count_at rows t ≡ 0 → table_size rows s t ≡ 0
no_size rows s t none = ap (λ n. n * sum_by (space_of s) (columns_in t)) none ∙ omega arith

sum_nothing : (f : ℕ → ℕ) (n : ℕ) → ((k : ℕ) → k < n → f k ≡ 0) → sum_below f n ≡ 0
sum_nothing f zero each = sum_none f
sum_nothing f (suc n) each = omega (arith, sum_suc f n, sum_nothing f n (λ k low. each k (omega (arith, low))), each n (omega arith))

sum_after : (f : ℕ → ℕ) (n m : ℕ) → ((k : ℕ) → n ≤ k → f k ≡ 0) → sum_below f (n + m) ≡ sum_below f n
sum_after f n zero each = let e : n + 0 ≡ n = omega arith in ap (sum_below f) e
sum_after f n (suc m) each =
    let e : n + suc m ≡ suc (n + m) = omega arith in
    ap (sum_below f) e ∙ sum_suc f (n + m) ∙ omega (arith, sum_after f n m each, each (n + m) (omega arith))

four_most : (width space : ℕ) → Sizes width space → space ≤ 4
four_most width space (inl e) = omega (arith, e.1)
four_most width space (inr (inl e)) = omega (arith, e.1)
four_most width space (inr (inr e)) = omega (arith, e.1)

four_few : (s : Shape) → sum_by (space_of s) (columns_in 0x30) ≤ 16
unfolding columns_in
four_few s =
    let a = four_most (width_of s Blob) (space_of s Blob) (sizes s Blob) in
    let b = four_most (width_of s Guid) (space_of s Guid) (sizes s Guid) in
    rw (sum_by-cons (space_of s) Blob (Guid ∷ Blob ∷ Guid ∷ []), sum_by-cons (space_of s) Guid (Blob ∷ Guid ∷ []), sum_by-cons (space_of s) Blob (Guid ∷ []), sum_by-cons (space_of s) Guid []) (omega (arith, a, b))

two_few : (s : Shape) → sum_by (space_of s) (columns_in 0x31) ≤ 8
unfolding columns_in
two_few s =
    let a = four_most (width_of s (Index 0x30)) (space_of s (Index 0x30)) (sizes s (Index 0x30)) in
    let b = four_most (width_of s Blob) (space_of s Blob) (sizes s Blob) in
    rw (sum_by-cons (space_of s) (Index 0x30) (Blob ∷ []), sum_by-cons (space_of s) Blob []) (omega (arith, a, b))

others_none : (p : PlainPdb) (n : ℕ) (h : Built) (rows : List (List (List ℕ))) (t : ℕ) → HoldPdb p n h rows → ((t < 0x30) ⊎ (0x32 ≤ t)) → count_at rows t ≡ 0
others_none p n h rows t held (inl low) = held.others t (grind (arith, nat_tests, low)) (grind (arith, nat_tests, low))
others_none p n h rows t held (inr past) = held.others t (grind (arith, nat_tests, past)) (grind (arith, nat_tests, past))

tables_few : (p : PlainPdb) (n : ℕ) (h : Built) (rows : List (List (List ℕ))) (s : Shape) → HoldPdb p n h rows → sum_below (table_size rows s) 64 ≤ count_at rows 0x30 * 16 + count_at rows 0x31 * 8
tables_few p n h rows s held =
    let f = table_size rows s in
    let zeros = sum_nothing f 0x30 (λ k low. no_size rows s k (others_none p n h rows k held (inl low))) in
    let after = sum_after f 0x32 14 (λ k past. no_size rows s k (others_none p n h rows k held (inr past))) in
    let documents : count_at rows 0x30 ≤ count_at rows 0x30 = omega arith in
    let methods : count_at rows 0x31 ≤ count_at rows 0x31 = omega arith in
    omega (arith, zeros, sum_suc f 0x30, sum_suc f 0x31, after, mul-le-mul documents (four_few s), mul-le-mul methods (two_few s))

written_few : (rows : List (List (List ℕ))) (t : ℕ) → length (count_written rows t) ≤ 4
written_few rows t = by_some (nat_lt 0 (count_at rows t))
  where
    by_some : (b : Bool) → length (if b then to_le_bytes w32 (count_at rows t) else []) ≤ 4
    by_some true = omega arith
    by_some false = omega arith

pieces_few : (f : ℕ → List ℕ) (n : ℕ) → ((k : ℕ) → length (f k) ≤ 4) → sum_below (λ k. length (f k)) n ≤ 4 * n
pieces_few f zero each = omega (arith, sum_none (λ k. length (f k)))
pieces_few f (suc n) each = omega (arith, sum_suc (λ k. length (f k)) n, pieces_few f n each, each n)

more_few : (flags : ℕ) → length (more_data flags) ≤ 4
more_few flags = by_bit (flags / 0x40 % 2 == 1)
  where
    by_bit : (b : Bool) → length {A = ℕ} (if b then replicate 4 0 else []) ≤ 4
    by_bit true = omega arith
    by_bit false = omega arith

four_parts : (w x y z : List ℕ) → length (((w ++ x) ++ y) ++ z) ≡ length w + length x + length y + length z
four_parts w x y z =
    length-append ((w ++ x) ++ y) z ∙ ap (λ n. n + length z) (length-append (w ++ x) y ∙ ap (λ n. n + length y) (length-append w x))

stream_total : (rows : List (List (List ℕ))) (jtd : Bool) (flags : ℕ)
    → length (stream_of rows jtd flags) ≡ 24 + length (flat_map (count_written rows) (below 64)) + length (more_data flags) + length (flat_map (table_written rows (shape_of rows jtd flags)) (below 64))
unfolding stream_of
stream_total rows jtd flags =
    four_parts (header_written (valid_of rows) flags) (flat_map (count_written rows) (below 64)) (more_data flags) (flat_map (table_written rows (shape_of rows jtd flags)) (below 64))

counts_length : (rows : List (List (List ℕ))) → length (flat_map (count_written rows) (below 64)) ≤ 256
counts_length rows =
    let d : length (flat_map (count_written rows) (below 64)) ≡ sum_below (λ t. length (count_written rows t)) 64 = pieces_length (count_written rows) (λ t. length (count_written rows t)) 64 (λ k low. refl) in
    subst (λ n. n ≤ 256) (sym d) (pieces_few (count_written rows) 64 (written_few rows))

tables_length : (p : PlainPdb) (n : ℕ) (h : Built) (rows : List (List (List ℕ))) (s : Shape) → AreRows rows → HoldPdb p n h rows
    → length (flat_map (table_written rows s) (below 64)) ≤ count_at rows 0x30 * 16 + count_at rows 0x31 * 8
tables_length p n h rows s are held =
    let e : length (flat_map (table_written rows s) (below 64)) ≡ sum_below (table_size rows s) 64 = pieces_length (table_written rows s) (table_size rows s) 64 (λ k low. table_length rows s k are) in
    subst (λ m. m ≤ count_at rows 0x30 * 16 + count_at rows 0x31 * 8) (sym e) (tables_few p n h rows s held)

sum_few : (a b c d total : ℕ) → total ≡ 24 + a + b + c → a ≤ 256 → b ≤ 4 → c ≤ d → total ≤ 284 + d
sum_few a b c d total is x y z = omega (arith, is, x, y, z)

stream_few : (p : PlainPdb) (n : ℕ) (h : Built) (rows : List (List (List ℕ))) (flags : ℕ) → AreRows rows → HoldPdb p n h rows → length (stream_of rows false flags) ≤ 284 + (count_at rows 0x30 * 16 + count_at rows 0x31 * 8)
stream_few p n h rows flags are held =
    sum_few (length (flat_map (count_written rows) (below 64))) (length (more_data flags)) (length (flat_map (table_written rows (shape_of rows false flags)) (below 64))) (count_at rows 0x30 * 16 + count_at rows 0x31 * 8)
    (length (stream_of rows false flags)) (stream_total rows false flags) (counts_length rows) (more_few flags) (tables_length p n h rows (shape_of rows false flags) are held)

-- the bytes of the heaps
record HeapsFew (h : Built) : Type 0 where
  strings : length (heaps_built h).strings ≤ 2 ^ 29
  users : length (heaps_built h).users ≤ 2 ^ 24
  blobs : length (heaps_built h).blobs ≤ 2 ^ 29
  guids : length (heaps_built h).guids ≤ 2 ^ 29

heaps_few : (h : Built) → h.starts ≡ pdb_starts → IsGood h → AreWithinLimits h → HeapsFew h
unfolding heaps_built
heaps_few h none good within =
    let a : h.starts.strings ≡ 0 = ap (λ s. s.strings) none in
    let b : h.starts.users ≡ 0 = ap (λ s. s.users) none in
    let c : h.starts.blobs ≡ 0 = ap (λ s. s.blobs) none in
    let d : h.starts.guids ≡ 0 = ap (λ s. s.guids) none in
    let texts = ap (λ n. joined_end text_bytes n h.texts) a in
    let users = ap (λ n. joined_end user_bytes n h.users) b in
    let blobs = ap (λ n. joined_end blob_bytes n h.blobs) c in
    let guids = ap (λ n. length (guid_bytes n h.guids)) d in
    record {
      strings = omega (arith, heap_is text_bytes h.texts, texts, within.texts, a);
      users = omega (arith, heap_is user_bytes h.users, users, within.users, b);
      blobs = omega (arith, heap_is blob_bytes h.blobs, blobs, within.blobs, c);
      guids = omega (arith, guids, guids_are h.guids good.guids, within.guids, d);
    }

size_few : (pdb stream : List ℕ) (h : Counted) → pdb_root_size pdb stream h ≤ length pdb + length stream + length h.strings + length h.users + length h.blobs + length h.guids + 160
size_few pdb stream h =
    omega (arith, padded_few (length pdb), padded_few (length stream), padded_few (length h.strings), padded_few (length h.users), padded_few (length h.guids), padded_few (length h.blobs), padded_few (length (codes "#Pdb") + 1))

-- the root fits four bytes
pub root_fits : (p : PlainPdb) (n : ℕ) (h : Built) (rows : List (List (List ℕ))) (pdb : List ℕ) → HoldPdb p n h rows → IsGood h → AreWithinLimits h → AreRows rows → count_at rows 0x30 < 2 ^ 23 → n < 2 ^ 24 → length pdb ≡ 32
    → pdb_built_size (record { heaps = h; rows = rows }) pdb < 2 ^ 32
root_fits p n h rows pdb held good within are documents methods long =
    let stream = stream_of rows false (heap_bits rows) in
    let few = heaps_few h held.starts good within in
    omega (arith, size_few pdb stream (heaps_built h), stream_few p n h rows (heap_bits rows) are held, few.strings, few.users, few.blobs, few.guids, held.methods, documents, methods, long)

-- and is within the weight
pub root_light : (p : PlainPdb) (n : ℕ) (h : Built) (rows : List (List (List ℕ))) (pdb : List ℕ) → HoldPdb p n h rows → IsGood h → AreRows rows → length pdb ≡ 32
    → joined_size h + 16 * count_at rows 0x30 + 8 * n + 65000 ≤ pdb_weight p n → length (pdb_root_built (record { heaps = h; rows = rows }) pdb) ≤ pdb_weight p n
unfolding pdb_root_built
root_light p n h rows pdb held good are long size =
    let stream = stream_of rows false (heap_bits rows) in
    omega (arith, pdb_root_length pdb (has_ptr_rows rows) stream (heaps_built h), stream_few p n h rows (heap_bits rows) are held, heaps_are h held.starts good, held.methods, long, size)

pub stream_length : (entry : ℕ) → length (pdb_stream entry) ≡ 32
unfolding pdb_stream
stream_length entry = refl
