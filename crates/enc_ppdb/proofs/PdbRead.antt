-- A PDB that was written is read as its parts.
use Rattle.std.proofs.Common.{◌≡◌, ℕ, zero, suc, ◌+◌, ◌^◌, ◌<◌, ◌≤◌, Bool, true, false, List, Option, Some, Result, Ok, refl, ap, ◌∙◌, arith}
use Rattle.std.specs.Prelude.{◌||◌, not, IsTrue, unwrap_or, option_map, option_and_then, nat_lt, slice_get, replicate}
use Rattle.std.specs.Int.{w32, w64}
use Rattle.std.specs.List.{list_all}
use Rattle.std.specs.Result.{result_ok}
use Rattle.enc_base.specs.Numbers.{little_endian_at}
use Rattle.enc_base.specs.Token.{nth_row}
use Rattle.enc_base.specs.declared.refusal.Refusal.{Refusal}
use Rattle.enc_emit.specs.Written.{has_ptr_rows, pdb_root_built, pdb_built_size, pdb_root_written, pdb_root_size, HoldsStreams}
use Rattle.enc_emit.proofs.Read.{pdb_root_is_read}
use Rattle.enc_meta.specs.Built.{Built, heaps_built}
use Rattle.enc_meta.specs.BuiltLaws.{IsGood}
use Rattle.enc_meta.proofs.BuiltMeanings.{all_texts_count}
use Rattle.enc_meta.specs.Heaps.{counted_strings, part}
use Rattle.enc_meta.specs.Root.{root_of}
use Rattle.enc_meta.specs.declared.root.Root.{Root}
use Rattle.enc_meta.specs.declared.span.Span.{Span}
use Rattle.enc_rows.specs.Layout.{Layout, has_table, is_expected, is_pdb_table, tables_below, layout_of, form_allows, tables_or_fault, stream_tables, raw_cell, rows_of}
use Rattle.enc_rows.specs.Source.{Source, raw_in}
use Rattle.enc_rows.specs.Sums.{sum_below, below}
use Rattle.enc_rows.specs.Written.{rows_at, count_at, counts_of, valid_of, stream_of, heap_bits, AreRows, AllFit, IndicesFit, layout_written}
use Rattle.enc_rows.specs.declared.form.Form.TheVariants as form
use Rattle.enc_rows.proofs.Below.{all_none, all_more}
use Rattle.enc_rows.proofs.Bits.{valid_tells}
use Rattle.enc_rows.proofs.CellsRead.{number_read}
use Rattle.enc_rows.proofs.HeapBits.{heap_bits_fit}
use Rattle.enc_rows.proofs.Layouts.{count_is, stream_read}
use Rattle.enc_rows.proofs.Stands.{four_there}
use Rattle.enc_ppdb.specs.Pdb.{outer_count, outer_in, outer_of, entry_named_in, entry_told, pdb_source, pdb_layout, pdb_source_of}
use Rattle.enc_ppdb.specs.Written.{pdb_stream}

-- `#Pdb` names no table of another module
bits_there : (entry : ℕ) → little_endian_at w64 (pdb_stream entry) 24 ≡ Some 0
unfolding pdb_stream
bits_there entry = refl

outer_there : (entry : ℕ) → outer_in (pdb_stream entry) 0 ≡ Some (replicate 64 0)
unfolding pdb_stream outer_in tables_below sum_below below outer_count
outer_there entry = refl

outer_is : (bytes : List ℕ) (pdb : Option Span) (span : Span) (entry : ℕ) → pdb ≡ Some span → part bytes span ≡ pdb_stream entry → outer_of bytes pdb ≡ Some (replicate 64 0)
unfolding outer_of
outer_is bytes pdb span entry e there = rw (e, there, bits_there entry) (outer_there entry)

-- the entry point
entry_there : (entry : ℕ) → entry < 2 ^ 32 → little_endian_at w32 (pdb_stream entry) 20 ≡ Some entry
unfolding pdb_stream
entry_there entry fits = four_there entry (pdb_stream entry) 20 fits (record { before = replicate 20 0; after = replicate 8 0; split = refl; place = refl })

pub entry_is_told : (h : Built) (rows : List (List (List ℕ))) (entry : ℕ) → IsGood h → entry < 2 ^ 32 → pdb_built_size (record { heaps = h; rows = rows }) (pdb_stream entry) < 2 ^ 32
    → entry_told (pdb_root_built (record { heaps = h; rows = rows }) (pdb_stream entry)) ≡ Some entry
unfolding entry_told pdb_root_built
entry_is_told h rows entry good fits small =
    let bytes = pdb_root_written (pdb_stream entry) (has_ptr_rows rows) (stream_of rows false (heap_bits rows)) (heaps_built h) in
    let r = pdb_root_is_read (pdb_stream entry) (has_ptr_rows rows) (stream_of rows false (heap_bits rows)) (heaps_built h) small (all_texts_count h good) in
    ap (λ (x : Result Root Refusal). option_and_then (λ (root : Root). entry_named_in bytes root.pdb) (result_ok x)) r.1
    ∙ ap (entry_named_in bytes) r.3.1
    ∙ ap (λ (x : List ℕ). little_endian_at w32 x 20) r.3.2
    ∙ entry_there entry fits

-- the form allows its tables
expected_here : (rows : List (List (List ℕ))) (t : ℕ) → t < 64 → (is_pdb_table t ≡ false → count_at rows t ≡ 0) → is_expected (valid_of rows) t ≡ true
unfolding is_expected
expected_here rows t lt none = by (is_pdb_table t) refl
  where
    by : (b : Bool) → is_pdb_table t ≡ b → (not (has_table (valid_of rows) t) || b) ≡ true
    by true e = either (not (has_table (valid_of rows) t))
      where
        either : (a : Bool) → (a || true) ≡ true
        either true = refl
        either false = refl
    by false e =
        let no_rows : nat_lt 0 (count_at rows t) ≡ false = rw (none e) refl in
        rw (valid_tells rows t lt, no_rows) refl

all_expected : (rows : List (List (List ℕ))) (n : ℕ) → n ≤ 64 → ((t : ℕ) → is_pdb_table t ≡ false → count_at rows t ≡ 0) → list_all (is_expected (valid_of rows)) (below n) ≡ true
all_expected rows zero le none = all_none (is_expected (valid_of rows))
all_expected rows (suc n) le none =
    let e : suc n ≡ n + 1 = omega arith in
    rw (e, all_more (is_expected (valid_of rows)) n, all_expected rows n (omega (arith, le)) none, expected_here rows n (omega (arith, le)) (none n)) refl

allowed : (rows : List (List (List ℕ))) → ((t : ℕ) → is_pdb_table t ≡ false → count_at rows t ≡ 0) → IsTrue (form_allows form.Pdb (valid_of rows) (counts_of rows))
unfolding form_allows
allowed rows none = all_expected rows 64 (omega arith) none

-- its layout is read
layout_is : (bytes : List ℕ) (root : Root) (rows : List (List (List ℕ))) (span : Span) (entry flags : ℕ) → AreRows rows → IsTrue (form_allows form.Pdb (valid_of rows) (counts_of rows))
    → root.pdb ≡ Some span → part bytes span ≡ pdb_stream entry → part bytes root.tables ≡ stream_of rows false flags → root.jtd ≡ false
    → pdb_layout bytes root ≡ Some (layout_written rows root.tables false flags)
unfolding pdb_layout stream_tables
layout_is bytes root rows span entry flags are fine pdb bits there wide =
    ap (option_and_then (λ (outer : List ℕ). result_ok (stream_tables bytes root.tables form.Pdb root.jtd outer))) (outer_is bytes root.pdb span entry pdb bits)
    ∙ ap (λ (x : List ℕ). result_ok (tables_or_fault (layout_of x root.tables form.Pdb root.jtd (replicate 64 0)))) there
    ∙ ap (λ (b : Bool). result_ok (tables_or_fault (layout_of (stream_of rows false flags) root.tables form.Pdb b (replicate 64 0)))) wide
    ∙ ap (λ (o : Option Layout). result_ok (tables_or_fault o)) (stream_read rows root.tables form.Pdb false flags are fine)

source_is : (bytes : List ℕ) (root : Root) (l : Layout) → root_of bytes ≡ Ok root → pdb_layout bytes root ≡ Some l → pdb_source_of bytes ≡ Some (pdb_source bytes root l)
unfolding pdb_source_of
source_is bytes root l read laid =
    ap (λ (r : Result Root Refusal). option_and_then (λ (x : Root). option_map (pdb_source bytes x) (pdb_layout bytes x)) (result_ok r)) read
    ∙ ap (option_map (pdb_source bytes root)) laid

-- the source says these rows and these heaps
pub record IsPdbReadAs (h : Built) (rows : List (List (List ℕ))) (s : Source) : Type 0 where
  pub counts : (t : ℕ) → t < 64 → rows_of s.layout t ≡ count_at rows t
  pub numbers : (t n i : ℕ) (cells : List ℕ) (x : ℕ) → slice_get (rows_at rows t) n ≡ Some cells → slice_get cells i ≡ Some x → raw_in s (nth_row t n) i ≡ x
  pub heaps : s.heaps ≡ heaps_built h

read_as : (bytes : List ℕ) (root : Root) (h : Built) (rows : List (List (List ℕ))) (uncompressed : Bool) → AreRows rows → AllFit rows false (heap_bits rows)
    → HoldsStreams bytes false uncompressed (stream_of rows false (heap_bits rows)) (heaps_built h) root
    → IsPdbReadAs h rows (pdb_source bytes root (layout_written rows root.tables false (heap_bits rows)))
read_as bytes root h rows uncompressed are fit streams =
    let flags = heap_bits rows in
    let l = layout_written rows root.tables false flags in
    record {
      counts = λ t low. count_is rows t low;
      numbers = λ t n i cells x row cell.
          ap (λ (y : List ℕ). unwrap_or (raw_cell y l (nth_row t n) i) 0) (streams.tables)
          ∙ ap (λ (o : Option ℕ). unwrap_or o 0) (number_read rows root.tables false flags t n i cells x are fit row cell);
      heaps = streams.heaps;
    }

-- the root of such rows and heaps is read so
pub pdb_is_read : (h : Built) (rows : List (List (List ℕ))) (uncompressed : Bool) (entry : ℕ) → AreRows rows → IndicesFit rows false → ((t : ℕ) → is_pdb_table t ≡ false → count_at rows t ≡ 0)
    → pdb_root_size (pdb_stream entry) (stream_of rows false (heap_bits rows)) (heaps_built h) < 2 ^ 32 → counted_strings (heaps_built h).strings ≡ (heaps_built h).strings
    → (s : Source) × (pdb_source_of (pdb_root_written (pdb_stream entry) uncompressed (stream_of rows false (heap_bits rows)) (heaps_built h)) ≡ Some s) × IsPdbReadAs h rows s
pdb_is_read h rows uncompressed entry are indices none small texts =
    let flags = heap_bits rows in
    let stream = stream_of rows false flags in
    let bytes = pdb_root_written (pdb_stream entry) uncompressed stream (heaps_built h) in
    let r = pdb_root_is_read (pdb_stream entry) uncompressed stream (heaps_built h) small texts in
    let laid = layout_is bytes r.0 rows r.3.0 entry flags are (allowed rows none) r.3.1 r.3.2 r.2.tables r.2.wide in (
      pdb_source bytes r.0 (layout_written rows r.0.tables false flags),
      source_is bytes r.0 (layout_written rows r.0.tables false flags) r.1 laid,
      read_as bytes r.0 h rows uncompressed are (heap_bits_fit rows false are indices) r.2,
    )
