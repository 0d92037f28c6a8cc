-- An image that was written is read as its parts.
use Rattle.std.proofs.Common.{◌≡◌, ℕ, zero, suc, ◌+◌, ◌<◌, ◌≤◌, Bool, true, false, List, [], length, Option, Result, Ok, refl, ap, ◌∙◌, arith, lt-ltb}
use Rattle.std.specs.Prelude.{◌^◌, ◌==◌, IsTrue, unwrap_or, nat_lt, slice_index, replicate, if◌then◌else◌}
use Rattle.std.proofs.lemmas.Bool.{and_from}
use Rattle.std.proofs.lemmas.Bool.Decides.{nat_tests}
use Rattle.std.proofs.lemmas.Option.{slice_get_past}
use Rattle.enc_base.specs.Token.{nth_row}
use Rattle.enc_base.specs.declared.refusal.Refusal.{Refusal}
use Rattle.enc_emit.specs.Written.{root_written, root_size, has_ptr_rows, HoldsStreams}
use Rattle.enc_emit.proofs.Read.{root_is_read}
use Rattle.enc_image.specs.Base.{◌>>=◌, metadata_of, no_counts, layout_for, source_from, source_of}
use Rattle.enc_meta.specs.Built.{Built, heaps_built}
use Rattle.enc_meta.specs.Heaps.{counted_strings, heaps_of, part}
use Rattle.enc_meta.specs.Root.{root_of}
use Rattle.enc_meta.specs.declared.root.Root.{Root}
use Rattle.enc_meta.proofs.BuiltMeanings.{all_texts_count}
use Rattle.enc_pe.specs.Container.{container_of}
use Rattle.enc_pe.specs.Written.{image_written, image_size, most_bytes, Holds}
use Rattle.enc_pe.specs.declared.container.Container.{Container}
use Rattle.enc_pe.proofs.ImagesRead.{image_is_read}
use Rattle.enc_plain.specs.Module.{Module, Row}
use Rattle.enc_plain.specs.Sound.{IsSound, is_part, row_count}
use Rattle.enc_rows.specs.Layout.{Layout, layout_of, form_allows, tables_or_fault, stream_tables, raw_cell}
use Rattle.enc_rows.specs.Source.{Source}
use Rattle.enc_rows.specs.Sums.{sum_below}
use Rattle.enc_rows.specs.Written.{count_at, counts_of, bit_of, valid_of, stream_of, heap_bits, AreRows, AllFit, IndicesFit, layout_written}
use Rattle.enc_rows.specs.declared.form.Form.TheVariants as form
use Rattle.enc_rows.proofs.Below.{sum_suc}
use Rattle.enc_rows.proofs.Bits.{bits_below}
use Rattle.enc_rows.proofs.CellsRead.{number_read}
use Rattle.enc_rows.proofs.HeapBits.{heap_bits_fit}
use Rattle.enc_rows.proofs.Layouts.{count_is, stream_read}
use Rattle.enc_rewriter.specs.Numbers.{HoldRows, needs_jtd}
use Rattle.enc_rewriter.specs.Placed.{Placed}
use Rattle.enc_rewriter.specs.Rewritten.{HoldModule, FitsImage, root_of_parts, image_of_parts}
use Rattle.enc_rewriter.proofs.ReadAs.{IsReadAs}
use Rattle.enc_rewriter.proofs.RootForms.{root_is}

-- tables past those of modules are parts without rows
past_part : (t : ℕ) → 0x2D ≤ t → is_part t ≡ true
past_part t h =
    let a : (0x03 == t) ≡ false = grind (arith, nat_tests) in
    let b : (0x05 == t) ≡ false = grind (arith, nat_tests) in
    let c : (0x07 == t) ≡ false = grind (arith, nat_tests) in
    let d : (0x13 == t) ≡ false = grind (arith, nat_tests) in
    let e : (0x16 == t) ≡ false = grind (arith, nat_tests) in
    let f : (0x1E == t) ≡ false = grind (arith, nat_tests) in
    let g : (0x1F == t) ≡ false = grind (arith, nat_tests) in
    rw (a, b, c, d, e, f, g) refl

pub rows_past : (m : Module) (t : ℕ) → IsSound m → 0x2D ≤ t → row_count m t ≡ 0
rows_past m t sound past = ap (λ (o : Option (List Row)). length (unwrap_or o [])) (slice_get_past m.tables t (omega (arith, sound.owners.tables.all, past)))

pub part_count : (m : Module) (h : Built) (p : Placed) (rows : List (List (List ℕ))) (t : ℕ) → HoldRows m (heaps_built h) p rows → is_part t ≡ true → count_at rows t ≡ row_count m t
part_count m h p rows t said part = (said.parts t part).count

pub count_past : (m : Module) (h : Built) (p : Placed) (rows : List (List (List ℕ))) (t : ℕ) → IsSound m → HoldRows m (heaps_built h) p rows → 0x2D ≤ t → count_at rows t ≡ 0
count_past m h p rows t sound said past = part_count m h p rows t said (past_part t past) ∙ rows_past m t sound past

-- so the stream has none of them
sum_flat : (f : ℕ → ℕ) (n d : ℕ) → ((k : ℕ) → n ≤ k → f k ≡ 0) → sum_below f (n + d) ≡ sum_below f n
sum_flat f n zero none = let e : n + 0 ≡ n = omega arith in rw e refl
sum_flat f n (suc d) none =
    let e : n + suc d ≡ suc (n + d) = omega arith in
    let z = none (n + d) (omega arith) in
    rw (e, sum_suc f (n + d)) (omega (arith, z, sum_flat f n d none))

valid_low : (rows : List (List (List ℕ))) → ((t : ℕ) → 0x2D ≤ t → count_at rows t ≡ 0) → valid_of rows < 2 ^ 0x2D
unfolding valid_of
valid_low rows none =
    let bits : (k : ℕ) → 0x2D ≤ k → bit_of rows k ≡ 0 = λ k past. ap (λ (n : ℕ). if nat_lt 0 n then 2 ^ k else 0) (none k past) in
    let flat : sum_below (bit_of rows) 64 ≡ sum_below (bit_of rows) 0x2D = sum_flat (bit_of rows) 0x2D 0x13 bits in
    rw flat (bits_below (λ k. nat_lt 0 (count_at rows k)) 0x2D)

-- it is a stream of a base
allowed : (m : Module) (h : Built) (p : Placed) (rows : List (List (List ℕ))) → IsSound m → HoldRows m (heaps_built h) p rows
    → IsTrue (form_allows form.Base (valid_of rows) (counts_of rows))
unfolding form_allows
allowed m h p rows sound said =
    let valid : nat_lt (valid_of rows) (2 ^ 0x2D) ≡ true = lt-ltb _ _ (valid_low rows (λ t past. count_past m h p rows t sound said past)) in
    let single : slice_index (counts_of rows) 0 ≡ 1 = count_is rows 0 (omega arith) ∙ part_count m h p rows 0 said refl ∙ sound.counts.single in
    let log : slice_index (counts_of rows) 0x1E ≡ 0 = count_is rows 0x1E (omega arith) ∙ ap length said.log in
    let map : slice_index (counts_of rows) 0x1F ≡ 0 = count_is rows 0x1F (omega arith) ∙ ap length said.map in
    and_from _ _ (and_from _ _ (and_from _ _ valid (ap (λ n. n == 1) single)) (ap (λ n. n == 0) log)) (ap (λ n. n == 0) map)

-- its layout is read
layout_is : (bytes : List ℕ) (root : Root) (rows : List (List (List ℕ))) (jtd : Bool) (flags : ℕ) → AreRows rows → IsTrue (form_allows form.Base (valid_of rows) (counts_of rows))
    → part bytes root.tables ≡ stream_of rows jtd flags → root.jtd ≡ jtd → layout_for bytes root ≡ Ok (layout_written rows root.tables jtd flags)
unfolding layout_for no_counts stream_tables
layout_is bytes root rows jtd flags are fine there wide =
    ap (λ (x : List ℕ). tables_or_fault (layout_of x root.tables form.Base root.jtd (replicate 64 0))) there
    ∙ ap (λ (b : Bool). tables_or_fault (layout_of (stream_of rows jtd flags) root.tables form.Base b (replicate 64 0))) wide
    ∙ ap (λ (o : Option Layout). tables_or_fault o) (stream_read rows root.tables form.Base jtd flags are fine)

-- one step after the other
abbrev done : Source → Result Source Refusal
done s = Ok s

abbrev third : List ℕ → Container → Root → Result Layout Refusal → Result Source Refusal
third bytes c root o = o >>= λ (l : Layout). done (source_from bytes c root l)

abbrev second : List ℕ → Container → Result Root Refusal → Result Source Refusal
second bytes c o = o >>= λ (root : Root). third bytes c root (layout_for (metadata_of bytes c) root)

abbrev first : List ℕ → Result Container Refusal → Result Source Refusal
first bytes o = o >>= λ (c : Container). second bytes c (root_of (metadata_of bytes c))

source_is : (bytes metadata : List ℕ) (c : Container) (root : Root) (l : Layout) → container_of bytes ≡ Ok c → part bytes c.metadata ≡ metadata → root_of metadata ≡ Ok root
    → layout_for metadata root ≡ Ok l → source_of bytes ≡ Ok (source_from bytes c root l)
unfolding source_of
source_is bytes metadata c root l made there read laid =
    let two : root_of (part bytes c.metadata) ≡ Ok root = ap root_of there ∙ read in
    let three : layout_for (part bytes c.metadata) root ≡ Ok l = ap (λ (x : List ℕ). layout_for x root) there ∙ laid in
    ap (first bytes) made ∙ ap (second bytes c) two ∙ ap (third bytes c root) three

-- and the parts are those that were written
read_as : (m : Module) (h : Built) (p : Placed) (rows : List (List (List ℕ))) (bytes metadata : List ℕ) (c : Container) (root : Root) (jtd uncompressed : Bool) → AreRows rows → AllFit rows jtd (heap_bits rows)
    → Holds bytes metadata p.code m.resources m.entry c → HoldsStreams metadata jtd uncompressed (stream_of rows jtd (heap_bits rows)) (heaps_built h) root
    → IsReadAs m h p rows (source_from bytes c root (layout_written rows root.tables jtd (heap_bits rows)))
read_as m h p rows bytes metadata c root jtd uncompressed are fit holds streams =
    let flags = heap_bits rows in
    let l = layout_written rows root.tables jtd flags in
    let stream : part (part bytes c.metadata) root.tables ≡ stream_of rows jtd flags = ap (λ (y : List ℕ). part y root.tables) holds.metadata ∙ streams.tables in
    record {
      counts = λ t low. count_is rows t low;
      numbers = λ t n i cells x row cell.
          ap (λ (y : List ℕ). unwrap_or (raw_cell y l (nth_row t n) i) 0) stream
          ∙ ap (λ (o : Option ℕ). unwrap_or o 0) (number_read rows root.tables jtd flags t n i cells x are fit row cell);
      heaps = ap (λ (y : List ℕ). heaps_of y root) holds.metadata ∙ streams.heaps;
      behind = holds.behind;
      loaded = holds.loaded;
      resources = holds.resources;
      entry = holds.entry;
      bare = holds.bare;
    }

-- the container and the root of an image, whose tables are in a form
pub record HasRoot (bytes : List ℕ) (uncompressed : Bool) : Type 0 where
  pub container : Container
  pub root : Root
  pub contained : container_of bytes ≡ Ok container
  pub rooted : root_of (metadata_of bytes container) ≡ Ok root
  pub form : root.uncompressed ≡ uncompressed

read_with : (m : Module) (h : Built) (p : Placed) (rows : List (List (List ℕ))) (jtd uncompressed : Bool) (root : List ℕ)
    → root ≡ root_written jtd uncompressed (stream_of rows jtd (heap_bits rows)) (heaps_built h)
    → AreRows rows → IsTrue (form_allows form.Base (valid_of rows) (counts_of rows)) → AllFit rows jtd (heap_bits rows)
    → root_size jtd (stream_of rows jtd (heap_bits rows)) (heaps_built h) < 2 ^ 32 → counted_strings (heaps_built h).strings ≡ (heaps_built h).strings
    → image_size root p.code m.resources ≤ most_bytes → m.entry < 2 ^ 32
    → (s : Source) × (source_of (image_written root p.code m.resources m.entry) ≡ Ok s) × IsReadAs m h p rows s
    × HasRoot (image_written root p.code m.resources m.entry) uncompressed
read_with m h p rows jtd uncompressed root is are fine fit few texts small entry =
    let stream = stream_of rows jtd (heap_bits rows) in
    let image = image_written root p.code m.resources m.entry in
    let c = image_is_read root p.code m.resources m.entry small entry in
    let r = root_is_read jtd uncompressed stream (heaps_built h) few texts in
    let metadata : part image c.0.metadata ≡ root_written jtd uncompressed stream (heaps_built h) = c.2.metadata ∙ is in
    let holds : Holds image (root_written jtd uncompressed stream (heaps_built h)) p.code m.resources m.entry c.0 = record {
      metadata = metadata;
      resources = c.2.resources;
      entry = c.2.entry;
      bare = c.2.bare;
      behind = c.2.behind;
      loaded = c.2.loaded;
    } in
    let laid = layout_is (root_written jtd uncompressed stream (heaps_built h)) r.0 rows jtd (heap_bits rows) are fine r.2.tables r.2.wide in (
      source_from image c.0 r.0 (layout_written rows r.0.tables jtd (heap_bits rows)),
      source_is image (root_written jtd uncompressed stream (heaps_built h)) c.0 r.0 (layout_written rows r.0.tables jtd (heap_bits rows)) c.1 metadata r.1 laid,
      read_as m h p rows image (root_written jtd uncompressed stream (heaps_built h)) c.0 r.0 jtd uncompressed are fit holds r.2,
      record { container = c.0; root = r.0; contained = c.1; rooted = ap root_of metadata ∙ r.1; form = r.2.form },
    )

-- the image of parts that hold a sound module is read as these parts, where its indices fit
pub written_source : (m : Module) (h : Built) (p : Placed) (rows : List (List (List ℕ))) → IsSound m → HoldModule m h p rows → FitsImage m h p rows → IndicesFit rows (needs_jtd m)
    → (s : Source) × (source_of (image_of_parts m h p rows) ≡ Ok s) × IsReadAs m h p rows s × HasRoot (image_of_parts m h p rows) (has_ptr_rows rows)
unfolding image_of_parts
written_source m h p rows sound held fits indices =
    read_with m h p rows (needs_jtd m) (has_ptr_rows rows) (root_of_parts m h rows) (root_is m h rows) held.numbers (allowed m h p rows sound held.said)
    (heap_bits_fit rows (needs_jtd m) held.numbers indices) fits.root (all_texts_count h held.good) fits.image fits.entry
