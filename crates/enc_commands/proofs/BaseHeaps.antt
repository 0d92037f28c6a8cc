-- The heaps of a base lie in its file.
use Rattle.std.proofs.Common.{◌≡◌, ℕ, ◌≤◌, List, length, take, drop, Option, Some, None, Result, Ok, Err, refl, ◌+◌, subst, sym, arith}
use Rattle.std.specs.Prelude.{min}
use Rattle.std.proofs.lemmas.List.{length-take, length-drop}
use Rattle.enc_base.specs.declared.refusal.Refusal.{Refusal}
use Rattle.enc_meta.specs.Heaps.{counted_strings, filled, part, heaps_of, AreAtMost}
use Rattle.enc_meta.specs.Root.{root_of}
use Rattle.enc_meta.specs.declared.root.Root.{Root}
use Rattle.enc_meta.specs.declared.span.Span.{Span}
use Rattle.enc_pe.specs.Container.{container_of}
use Rattle.enc_pe.specs.declared.container.Container.{Container}
use Rattle.enc_rows.specs.Layout.{Layout}
use Rattle.enc_rows.specs.Source.{Source}
use Rattle.enc_image.specs.Base.{base_of, source_of, source_from, source_or, cells_fault, layout_for, metadata_of, ◌>>=◌}

taken_within : (n size : ℕ) (bytes : List ℕ) → length bytes ≤ size → length (take n bytes) ≤ size
taken_within n size bytes h = let is = length-take n bytes in omega (arith, is, h)

part_within : (size : ℕ) (bytes : List ℕ) (s : Span) → length bytes ≤ size → length (part bytes s) ≤ size
unfolding part
part_within size bytes s h = let is = length-drop s.start bytes in taken_within s.len size (drop s.start bytes) (omega (arith, is, h))

strings_within : (size : ℕ) (bytes : List ℕ) → length bytes ≤ size → length (counted_strings bytes) ≤ size
unfolding counted_strings
strings_within size bytes h = taken_within (filled bytes + 1) size bytes h

heaps_within : (size : ℕ) (bytes : List ℕ) (root : Root) → length bytes ≤ size → AreAtMost size (heaps_of bytes root)
unfolding heaps_of
heaps_within size bytes root h = record {
  strings = strings_within size (part bytes root.strings) (part_within size bytes root.strings h);
  users = part_within size bytes root.users h;
  blobs = part_within size bytes root.blobs h;
  guids = part_within size bytes root.guids h;
}

with_layout : (bytes : List ℕ) (c : Container) (root : Root) (l : Result Layout Refusal) (s : Source) → (l >>= (λ x. Ok (source_from bytes c root x))) ≡ Ok s → AreAtMost (length bytes) s.heaps
with_layout bytes c root (Ok l) s is =
    let e : source_from bytes c root l ≡ s = cc in
    subst (λ (x : Source). AreAtMost (length bytes) x.heaps) e (heaps_within (length bytes) (metadata_of bytes c) root (part_within (length bytes) bytes c.metadata (omega arith)))
with_layout bytes c root (Err e) s is = absurd cc

with_root : (bytes : List ℕ) (c : Container) (r : Result Root Refusal) (s : Source)
    → (r >>= (λ root. layout_for (metadata_of bytes c) root >>= (λ x. Ok (source_from bytes c root x)))) ≡ Ok s → AreAtMost (length bytes) s.heaps
with_root bytes c (Ok root) s is = with_layout bytes c root (layout_for (metadata_of bytes c) root) s is
with_root bytes c (Err e) s is = absurd cc

with_container : (bytes : List ℕ) (r : Result Container Refusal) (s : Source)
    → (r >>= (λ c. root_of (metadata_of bytes c) >>= (λ root. layout_for (metadata_of bytes c) root >>= (λ x. Ok (source_from bytes c root x))))) ≡ Ok s
    → AreAtMost (length bytes) s.heaps
with_container bytes (Ok c) s is = with_root bytes c (root_of (metadata_of bytes c)) s is
with_container bytes (Err e) s is = absurd cc

source_within : (bytes : List ℕ) (s : Source) → source_of bytes ≡ Ok s → AreAtMost (length bytes) s.heaps
unfolding source_of
source_within bytes s is = with_container bytes (container_of bytes) s is

or_source : (s t : Source) (o : Option Refusal) → source_or s o ≡ Ok t → s ≡ t
or_source s t None is = cc
or_source s t (Some e) is = absurd cc

judged_within : (bytes : List ℕ) (r : Result Source Refusal) (s : Source) → source_of bytes ≡ r → (r >>= (λ x. source_or x (cells_fault x))) ≡ Ok s → AreAtMost (length bytes) s.heaps
judged_within bytes (Ok t) s from is = subst (λ (x : Source). AreAtMost (length bytes) x.heaps) (or_source t s (cells_fault t) is) (source_within bytes t from)
judged_within bytes (Err e) s from is = absurd cc

-- the heaps of a base are no longer than its file
pub base_heaps_within : (bytes : List ℕ) (s : Source) → base_of bytes ≡ Ok s → AreAtMost (length bytes) s.heaps
unfolding base_of
base_heaps_within bytes s is = judged_within bytes (source_of bytes) s refl is
