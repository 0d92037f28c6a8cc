-- What is known of a base that isn't refused.
use Rattle.std.proofs.Common.{◌≡◌, ℕ, zero, suc, ◌^◌, ◌<◌, Bool, true, false, cond, List, [], ◌∷◌, length, map, drop, Option, Some, None, Result, Ok, Err, refl, ap, arith}
use Rattle.std.specs.Prelude.{◌&&◌, ◌==◌, option_and_then, find, nat_lt, nat_le, slice_get, slice_index, if◌then◌else◌}
use Rattle.std.specs.List.{list_all}
use Rattle.std.specs.Int.{w64}
use Rattle.std.proofs.lemmas.Bool.Decides.{nat_tests}
use Rattle.std.proofs.lemmas.Bool.{and_parts}
use Rattle.enc_base.specs.Numbers.{little_endian_at, AreBytes}
use Rattle.enc_base.specs.declared.refusal.Refusal.{Refusal}
use Rattle.enc_base.proofs.SmallNumbers.{EachIsByte, bytes_each, each_drop, each_take}
use Rattle.enc_meta.specs.declared.root.Root.{Root}
use Rattle.enc_meta.specs.declared.span.Span.{Span}
use Rattle.enc_meta.specs.Heaps.{part}
use Rattle.enc_meta.specs.Regions.{Region}
use Rattle.enc_meta.specs.Root.{root_of}
use Rattle.enc_pe.specs.declared.container.Container.{Container}
use Rattle.enc_pe.specs.declared.section.Section.{Section}
use Rattle.enc_pe.specs.Container.{container_of}
use Rattle.enc_pe.specs.Sections.{sections_of}
use Rattle.enc_pe.specs.Loaded.{region_of, regions_of}
use Rattle.enc_rows.specs.declared.form.Form.TheVariants as form
use Rattle.enc_rows.specs.Layout.{Layout, rows_of, form_allows, is_whole, whole_layout, laid_out, layout_of, tables_or_fault, stream_tables, table_start}
use Rattle.enc_rows.specs.Source.{Source}
use Rattle.enc_plain.proofs.LoadedBytes.{AreLoaded}
use Rattle.enc_image.specs.Base.{◌>>=◌, metadata_of, layout_for, no_counts, source_from, source_of, source_or, cells_fault, base_of}

-- its parts are bytes, no cell of it is refused, and no table has more than 2^24 - 1 rows, and Module one
pub record IsBase (s : Source) : Type 0 where
  pub cells : cells_fault s ≡ None
  pub stream : EachIsByte s.stream
  pub loaded : AreLoaded s.loaded
  pub few : (t : ℕ) → rows_of s.layout t < 2 ^ 24
  pub single : rows_of s.layout 0 ≡ 1

pub each_part : (bytes : List ℕ) (span : Span) → EachIsByte bytes → EachIsByte (part bytes span)
unfolding part
each_part bytes span all = each_take (drop span.start bytes) span.len (each_drop bytes span.start all)

found_bytes : (bytes : List ℕ) (x : Section) (r : Region) (b : Bool) (later : Option Region) → EachIsByte bytes → (later ≡ Some r → EachIsByte r.bytes) → cond b (Some (region_of bytes x)) later ≡ Some r → EachIsByte r.bytes
found_bytes bytes x r true later all rest h = let is : region_of bytes x ≡ r = cc in rw (← is) (each_part bytes x.raw all)
found_bytes bytes x r false later all rest h = rest h

made_bytes : (bytes : List ℕ) (test : Region → Bool) (sections : List Section) (r : Region) → EachIsByte bytes → find test (map (region_of bytes) sections) ≡ Some r → EachIsByte r.bytes
made_bytes bytes test [] r all h = absurd cc
made_bytes bytes test (x ∷ rest) r all h = found_bytes bytes x r (test (region_of bytes x)) (find test (map (region_of bytes) rest)) all (made_bytes bytes test rest r all) h

regions_bytes : (bytes : List ℕ) (headers : Span) → EachIsByte bytes → AreLoaded (regions_of bytes headers)
unfolding regions_of
regions_bytes bytes headers all = record { each = λ test r h. made_bytes bytes test (sections_of bytes headers) r all h }

-- each step before the last was made
pub then_ok : {A B : Type 0} (o : Result A Refusal) (f : A → Result B Refusal) (y : B) → (o >>= f) ≡ Ok y → (x : A) × (o ≡ Ok x) × (f x ≡ Ok y)
then_ok (Ok x) f y h = (x, refl, h)
then_ok (Err e) f y h = absurd cc

judged : (x s : Source) (o : Option Refusal) → source_or x o ≡ Ok s → (o ≡ None) × (x ≡ s)
judged x s None h = let is : x ≡ s = cc in (refl, is)
judged x s (Some e) h = absurd cc

done : Source → Result Source Refusal
done s = Ok s

same_source : (x s : Source) → done x ≡ Ok s → x ≡ s
unfolding done
same_source x s h = cc

-- the layout is whole
count_few : (counts : List ℕ) (t : ℕ) → list_all (λ n. nat_lt n 0x1000000) counts ≡ true → slice_index counts t < 2 ^ 24
count_few [] t h = omega arith
count_few (n ∷ rest) zero h = let e = (and_parts (nat_lt n 0x1000000) _ h).0 in grind (arith, nat_tests)
count_few (n ∷ rest) (suc t) h = count_few rest t (and_parts (nat_lt n 0x1000000) _ h).1

-- the counts of a base
pub record HasCounts (l : Layout) : Type 0 where
  pub few : (t : ℕ) → rows_of l t < 2 ^ 24
  pub single : rows_of l 0 ≡ 1

whole_counts : (stream : List ℕ) (valid : ℕ) (l : Layout) → is_whole (length stream) form.Base valid l.counts l.first (table_start l 64) ≡ true → HasCounts l
unfolding form_allows
whole_counts stream valid l h =
    let a = and_parts (nat_le l.first (length stream) && list_all (λ n. nat_lt n 0x1000000) l.counts && (nat_lt valid (2 ^ 0x2D) && slice_index l.counts 0x00 == 1 && slice_index l.counts 0x1E == 0 && slice_index l.counts 0x1F == 0)) (nat_le (table_start l 64) (length stream)) h in
    let b = and_parts (nat_le l.first (length stream) && list_all (λ n. nat_lt n 0x1000000) l.counts) (nat_lt valid (2 ^ 0x2D) && slice_index l.counts 0x00 == 1 && slice_index l.counts 0x1E == 0 && slice_index l.counts 0x1F == 0) a.0 in
    let c = and_parts (nat_le l.first (length stream)) (list_all (λ n. nat_lt n 0x1000000) l.counts) b.0 in
    let d = and_parts (nat_lt valid (2 ^ 0x2D) && slice_index l.counts 0x00 == 1 && slice_index l.counts 0x1E == 0) (slice_index l.counts 0x1F == 0) b.1 in
    let e = and_parts (nat_lt valid (2 ^ 0x2D) && slice_index l.counts 0x00 == 1) (slice_index l.counts 0x1E == 0) d.0 in
    let f = and_parts (nat_lt valid (2 ^ 0x2D)) (slice_index l.counts 0x00 == 1) e.0 in
    record { few = λ t. count_few l.counts t c.1; single = eq_of (slice_index l.counts 0) 1 f.1 }
  where
    eq_of : (a b : ℕ) → (a == b) ≡ true → a ≡ b
    eq_of a b h = grind (arith, nat_tests)

laid_counts : (stream : List ℕ) (valid : ℕ) (made l : Layout) (b : Bool) → is_whole (length stream) form.Base valid made.counts made.first (table_start made 64) ≡ b → (if b then Some made else None) ≡ Some l → HasCounts l
laid_counts stream valid made l true is h = let same : made ≡ l = cc in rw (← same) (whole_counts stream valid made is)
laid_counts stream valid made l false is h = absurd cc

if_whole : (stream : List ℕ) (valid : ℕ) (made l : Layout) → whole_layout stream form.Base valid made ≡ Some l → HasCounts l
unfolding whole_layout
if_whole stream valid made l h = laid_counts stream valid made l (is_whole (length stream) form.Base valid made.counts made.first (table_start made 64)) refl h

by_flags : (stream : List ℕ) (valid : ℕ) (f : ℕ → Layout) (l : Layout) (o : Option ℕ) → option_and_then (λ flags. whole_layout stream form.Base valid (f flags)) o ≡ Some l → HasCounts l
by_flags stream valid f l None h = absurd cc
by_flags stream valid f l (Some flags) h = if_whole stream valid (f flags) l h

by_valid : (stream : List ℕ) (f : ℕ → ℕ → Layout) (l : Layout) (o : Option ℕ) → option_and_then (λ valid. option_and_then (λ flags. whole_layout stream form.Base valid (f valid flags)) (slice_get stream 6)) o ≡ Some l → HasCounts l
by_valid stream f l None h = absurd cc
by_valid stream f l (Some valid) h = by_flags stream valid (f valid) l (slice_get stream 6) h

layout_counts : (stream : List ℕ) (span : Span) (jtd : Bool) (outer : List ℕ) (l : Layout) → layout_of stream span form.Base jtd outer ≡ Some l → HasCounts l
unfolding layout_of
layout_counts stream span jtd outer l h = by_valid stream (λ valid flags. laid_out stream span valid flags jtd outer) l (little_endian_at w64 stream 8) h

not_fault : (o : Option Layout) (l : Layout) → tables_or_fault o ≡ Ok l → o ≡ Some l
not_fault (Some x) l h = let same : x ≡ l = cc in ap (λ (y : Layout). Some y) same
not_fault None l h = absurd cc

root_counts : (bytes : List ℕ) (root : Root) (l : Layout) → layout_for bytes root ≡ Ok l → HasCounts l
unfolding layout_for stream_tables
root_counts bytes root l h = layout_counts (part bytes root.tables) root.tables root.jtd no_counts l (not_fault (layout_of (part bytes root.tables) root.tables form.Base root.jtd no_counts) l h)

parts_bytes : (bytes : List ℕ) (c : Container) (root : Root) (l : Layout) → EachIsByte bytes → cells_fault (source_from bytes c root l) ≡ None → HasCounts l → IsBase (source_from bytes c root l)
parts_bytes bytes c root l all cells counts =
    let metadata = each_part bytes c.metadata all in
    record { cells = cells; stream = each_part (metadata_of bytes c) root.tables metadata; loaded = regions_bytes bytes c.sections all; few = counts.few; single = counts.single }

source_is : (bytes : List ℕ) (s : Source) → EachIsByte bytes → source_of bytes ≡ Ok s → cells_fault s ≡ None → IsBase s
unfolding source_of done
source_is bytes s all h cells =
    let c = then_ok (container_of bytes) (λ (c : Container). root_of (metadata_of bytes c) >>= λ (root : Root). layout_for (metadata_of bytes c) root >>= λ (l : Layout). Ok (source_from bytes c root l)) s h in
    let root = then_ok (root_of (metadata_of bytes c.0)) (λ (root : Root). layout_for (metadata_of bytes c.0) root >>= λ (l : Layout). Ok (source_from bytes c.0 root l)) s c.2 in
    let l = then_ok (layout_for (metadata_of bytes c.0) root.0) (λ (l : Layout). done (source_from bytes c.0 root.0 l)) s root.2 in
    let is : source_from bytes c.0 root.0 l.0 ≡ s = same_source (source_from bytes c.0 root.0 l.0) s l.2 in
    let none : cells_fault (source_from bytes c.0 root.0 l.0) ≡ None = rw is cells in
    rw (← is) (parts_bytes bytes c.0 root.0 l.0 all none (root_counts (metadata_of bytes c.0) root.0 l.0 l.1))

pub opens : (bytes : List ℕ) (s : Source) → AreBytes bytes → base_of bytes ≡ Ok s → IsBase s
unfolding base_of
opens bytes s all h =
    let made = then_ok (source_of bytes) (λ (x : Source). source_or x (cells_fault x)) s h in
    let j = judged made.0 s (cells_fault made.0) made.2 in
    source_is bytes s (bytes_each bytes all) (rw j.1 at made.1) (rw j.1 at j.0)
