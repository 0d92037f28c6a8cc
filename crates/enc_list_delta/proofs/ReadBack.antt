-- A delta that was written is read as its parts.
use Rattle.std.proofs.Common.{◌≡◌, ℕ, zero, suc, ◌+◌, ◌<◌, ◌≤◌, Bool, true, List, [], ◌∷◌, length, map, Option, Some, Ok, refl, sym, subst, ap, ◌∙◌, arith, lt-ltb}
use Rattle.std.specs.Prelude.{◌^◌, ◌==◌, IsTrue, unwrap_or, nat_lt, slice_get, slice_index, replicate, if◌then◌else◌}
use Rattle.std.specs.List.{range_with_len}
use Rattle.std.proofs.lemmas.Bool.{and_from}
use Rattle.enc_base.specs.Token.{nth_row}
use Rattle.enc_emit.specs.Written.{root_written, root_size, root_built, built_size, that_count, HoldsStreams}
use Rattle.enc_emit.specs.declared.root_form.RootForm.TheVariants as root_form
use Rattle.enc_emit.proofs.Read.{counted_root_is_read}
use Rattle.enc_meta.specs.Built.{Built, heaps_built}
use Rattle.enc_meta.specs.BuiltLaws.{IsGood}
use Rattle.enc_meta.specs.Heaps.{Counted, part}
use Rattle.enc_meta.specs.Root.{root_of}
use Rattle.enc_meta.specs.declared.root.Root.{Root}
use Rattle.enc_meta.proofs.BuiltMeanings.{all_texts_count}
use Rattle.enc_rows.specs.Layout.{Layout, rows_of, layout_of, form_allows, tables_or_fault, stream_tables, raw_cell}
use Rattle.enc_rows.specs.Source.{Source, raw_in}
use Rattle.enc_rows.specs.Sums.{below, sum_below}
use Rattle.enc_rows.specs.Written.{rows_at, count_at, counts_of, bit_of, valid_of, stream_of, heap_bits, AreRows, AllFit, IndicesFit, layout_written}
use Rattle.enc_rows.specs.declared.form.Form.TheVariants as form
use Rattle.enc_rows.proofs.Below.{sum_suc}
use Rattle.enc_rows.proofs.Bits.{bits_below}
use Rattle.enc_rows.proofs.CellsRead.{number_read}
use Rattle.enc_rows.proofs.HeapBits.{heap_bits_fit}
use Rattle.enc_rows.proofs.Layouts.{count_is, stream_read}
use Rattle.enc_delta.specs.Delta.{loaded_code, delta_source, delta_layout, source_with, source_in, delta_of}

-- the numbers that a list has in order are its items
listed_from : {A : Type 0} (f : ℕ → A) (xs : List A) (a : ℕ) → ((i : ℕ) (x : A) → slice_get xs i ≡ Some x → f (a + i) ≡ x) → map f (range_with_len a (length xs)) ≡ xs
listed_from f [] a at = refl
listed_from f (x ∷ xs) a at =
    let first : f a ≡ x = let e : a + 0 ≡ a = omega arith in ap f (sym e) ∙ at 0 x refl in
    let more = listed_from f xs (a + 1) (λ i y h. let e : a + 1 + i ≡ a + suc i = omega arith in ap f e ∙ at (suc i) y h) in
    ap (λ y. y ∷ map f (range_with_len (a + 1) (length xs))) first ∙ ap (λ ys. x ∷ ys) more

pub listed_below : {A : Type 0} (f : ℕ → A) (xs : List A) → ((i : ℕ) (x : A) → slice_get xs i ≡ Some x → f i ≡ x) → map f (below (length xs)) ≡ xs
unfolding below
listed_below f xs at = listed_from f xs 0 (λ i x h. let e : 0 + i ≡ i = omega arith in ap f e ∙ at i x h)

-- a sum of nothing from a number on
sum_flat : (f : ℕ → ℕ) (n d : ℕ) → ((k : ℕ) → n ≤ k → f k ≡ 0) → sum_below f (n + d) ≡ sum_below f n
sum_flat f n zero none = let e : n + 0 ≡ n = omega arith in rw e refl
sum_flat f n (suc d) none =
    let e : n + suc d ≡ suc (n + d) = omega arith in
    let z = none (n + d) (omega arith) in
    rw (e, sum_suc f (n + d)) (omega (arith, z, sum_flat f n d none))

valid_low : (rows : List (List (List ℕ))) → ((t : ℕ) → 0x2D ≤ t → count_at rows t ≡ 0) → valid_of rows < 2 ^ 0x2D
unfolding valid_of
valid_low rows none =
    let bits : (k : ℕ) → 0x2D ≤ k → bit_of rows k ≡ 0 = λ k past. ap (λ (n : ℕ). if nat_lt 0 n then 2 ^ k else 0) (none k past) in
    let flat : sum_below (bit_of rows) 64 ≡ sum_below (bit_of rows) 0x2D = sum_flat (bit_of rows) 0x2D 0x13 bits in
    rw flat (bits_below (λ k. nat_lt 0 (count_at rows k)) 0x2D)

-- it is a stream of a delta
allowed : (rows : List (List (List ℕ))) → count_at rows 0 ≡ 1 → ((t : ℕ) → 0x2D ≤ t → count_at rows t ≡ 0) → IsTrue (form_allows form.Delta (valid_of rows) (counts_of rows))
unfolding form_allows
allowed rows one none =
    let valid : nat_lt (valid_of rows) (2 ^ 0x2D) ≡ true = lt-ltb _ _ (valid_low rows none) in
    let single : slice_index (counts_of rows) 0 ≡ 1 = count_is rows 0 (omega arith) ∙ one in
    and_from _ _ valid (ap (λ n. n == 1) single)

layout_is : (bytes : List ℕ) (root : Root) (rows : List (List (List ℕ))) (flags : ℕ) → AreRows rows → IsTrue (form_allows form.Delta (valid_of rows) (counts_of rows))
    → part bytes root.tables ≡ stream_of rows true flags → root.jtd ≡ true → delta_layout bytes root ≡ Ok (layout_written rows root.tables true flags)
unfolding delta_layout stream_tables
layout_is bytes root rows flags are fine there wide =
    ap (λ (x : List ℕ). tables_or_fault (layout_of x root.tables form.Delta root.jtd (replicate 64 0))) there
    ∙ ap (λ (b : Bool). tables_or_fault (layout_of (stream_of rows true flags) root.tables form.Delta b (replicate 64 0))) wide
    ∙ ap (λ (o : Option Layout). tables_or_fault o) (stream_read rows root.tables form.Delta true flags are fine)

source_is : (bytes il : List ℕ) (root : Root) (l : Layout) → root_of bytes ≡ Ok root → delta_layout bytes root ≡ Ok l → delta_of bytes il ≡ Ok (delta_source bytes il root l)
unfolding delta_of
source_is bytes il root l read laid =
    ap (source_in bytes il) read ∙ ap (source_with bytes il root) laid

-- no table from 64 on has rows
past_index : (xs : List ℕ) (i : ℕ) → length xs ≤ i → slice_index xs i ≡ 0
past_index [] i le = refl
past_index (x ∷ xs) zero le = absurd (omega (arith, le))
past_index (x ∷ xs) (suc i) le = past_index xs i (omega (arith, le))

as_long : {A : Type 0} (f : ℕ → A) (a n : ℕ) → length (map f (range_with_len a n)) ≡ n
as_long f a zero = refl
as_long f a (suc n) = ap suc (as_long f (a + 1) n)

count_past : (rows : List (List (List ℕ))) (t : ℕ) → 64 ≤ t → slice_index (counts_of rows) t ≡ 0
unfolding counts_of below
count_past rows t le = past_index (map (count_at rows) (range_with_len 0 64)) t (rw (as_long (count_at rows) 0 64) le)

-- the delta says these rows, these heaps and this code
pub record IsDeltaReadAs (h : Counted) (rows : List (List (List ℕ))) (il : List ℕ) (s : Source) : Type 0 where
  pub counts : (t : ℕ) → t < 64 → rows_of s.layout t ≡ count_at rows t
  pub past : (t : ℕ) → 64 ≤ t → rows_of s.layout t ≡ 0
  pub numbers : (t n i : ℕ) (cells : List ℕ) (x : ℕ) → slice_get (rows_at rows t) n ≡ Some cells → slice_get cells i ≡ Some x → raw_in s (nth_row t n) i ≡ x
  pub heaps : s.heaps ≡ h
  pub loaded : s.loaded ≡ loaded_code il

read_as : (bytes il : List ℕ) (root : Root) (h : Counted) (rows : List (List (List ℕ))) → AreRows rows → AllFit rows true (heap_bits rows)
    → HoldsStreams bytes true true (stream_of rows true (heap_bits rows)) h root
    → IsDeltaReadAs h rows il (delta_source bytes il root (layout_written rows root.tables true (heap_bits rows)))
read_as bytes il root h rows are fit streams =
    let flags = heap_bits rows in
    let l = layout_written rows root.tables true flags in
    record {
      counts = λ t low. count_is rows t low;
      past = λ t le. count_past rows t le;
      numbers = λ t n i cells x row cell.
          ap (λ (y : List ℕ). unwrap_or (raw_cell y l (nth_row t n) i) 0) streams.tables
          ∙ ap (λ (o : Option ℕ). unwrap_or o 0) (number_read rows root.tables true flags t n i cells x are fit row cell);
      heaps = streams.heaps;
      loaded = refl;
    }

-- whatever heaps stand in its root, they are read by the bytes that count
pub counted_is_read : (h : Counted) (rows : List (List (List ℕ))) (il : List ℕ) → AreRows rows → IndicesFit rows true → count_at rows 0 ≡ 1 → ((t : ℕ) → 0x2D ≤ t → count_at rows t ≡ 0)
    → root_size true (stream_of rows true (heap_bits rows)) h < 2 ^ 32
    → (s : Source) × (delta_of (root_written true true (stream_of rows true (heap_bits rows)) h) il ≡ Ok s) × IsDeltaReadAs (that_count h) rows il s
counted_is_read h rows il are indices one none small =
    let flags = heap_bits rows in
    let stream = stream_of rows true flags in
    let bytes = root_written true true stream h in
    let r = counted_root_is_read true true stream h small in
    let laid = layout_is bytes r.0 rows flags are (allowed rows one none) r.2.tables r.2.wide in (
      delta_source bytes il r.0 (layout_written rows r.0.tables true flags),
      source_is bytes il r.0 (layout_written rows r.0.tables true flags) r.1 laid,
      read_as bytes il r.0 (that_count h) rows are (heap_bits_fit rows true are indices) r.2,
    )

-- heaps that were built count whole
all_count : (h : Built) → IsGood h → that_count (heaps_built h) ≡ heaps_built h
all_count h good = ap (λ (xs : List ℕ). record { strings = xs; users = (heaps_built h).users; blobs = (heaps_built h).blobs; guids = (heaps_built h).guids }) (all_texts_count h good)

pub delta_is_read : (h : Built) (rows : List (List (List ℕ))) (il : List ℕ) → IsGood h → AreRows rows → IndicesFit rows true → count_at rows 0 ≡ 1 → ((t : ℕ) → 0x2D ≤ t → count_at rows t ≡ 0)
    → built_size (record { heaps = h; rows = rows }) true < 2 ^ 32
    → (s : Source) × (delta_of (root_built (record { heaps = h; rows = rows }) root_form.Delta) il ≡ Ok s) × IsDeltaReadAs (heaps_built h) rows il s
unfolding root_built
delta_is_read h rows il good are indices one none small =
    let r = counted_is_read (heaps_built h) rows il are indices one none small in
    (r.0, r.1, subst (λ (x : Counted). IsDeltaReadAs x rows il r.0) (all_count h good) r.2)
