-- A delta that was read is no longer than its files; and the last two of short ones aren't too long together.
use Rattle.std.proofs.Common.{◌≡◌, ℕ, ◌^◌, ◌≤◌, List, [], ◌∷◌, length, drop, Result, Ok, Err, subst, arith}
use Rattle.std.proofs.lemmas.List.{length-take, length-drop}
use Rattle.enc_base.specs.declared.refusal.Refusal.{Refusal}
use Rattle.enc_meta.specs.Heaps.{part}
use Rattle.enc_meta.specs.Root.{root_of}
use Rattle.enc_meta.specs.declared.root.Root.{Root}
use Rattle.enc_rows.specs.Layout.{Layout}
use Rattle.enc_rows.specs.Source.{Source}
use Rattle.enc_delta.specs.Delta.{delta_of, delta_source, source_with, source_in, delta_layout}
use Rattle.enc_merge.specs.Merges.{AllShort, IsShortDelta, ShortLast}

-- a delta that was read is no longer than its files
part_short : (bytes : List ℕ) (root : Root) → length (part bytes root.tables) ≤ length bytes
unfolding part
part_short bytes root =
    let a = length-take root.tables.len (drop root.tables.start bytes) in
    let b = length-drop root.tables.start bytes in
    omega (arith, a, b)

short_by : (metadata code : List ℕ) (root : Root) (o : Result Layout Refusal) (d : Source) → length metadata ≤ 2 ^ 26 → length code ≤ 2 ^ 26
    → source_with metadata code root o ≡ Ok d → IsShortDelta d
short_by metadata code root (Ok l) d a b h =
    let same : delta_source metadata code root l ≡ d = cc in
    let few = part_short metadata root in
    subst IsShortDelta same (record { stream = omega (arith, few, a); code = b })
short_by metadata code root (Err e) d a b h = absurd cc

short_of : (metadata code : List ℕ) (o : Result Root Refusal) (d : Source) → length metadata ≤ 2 ^ 26 → length code ≤ 2 ^ 26 → source_in metadata code o ≡ Ok d → IsShortDelta d
short_of metadata code (Ok root) d a b h = short_by metadata code root (delta_layout metadata root) d a b h
short_of metadata code (Err e) d a b h = absurd cc

pub short_read : (metadata code : List ℕ) (d : Source) → length metadata ≤ 2 ^ 26 → length code ≤ 2 ^ 26 → delta_of metadata code ≡ Ok d → IsShortDelta d
unfolding delta_of
short_read metadata code d a b h = short_of metadata code (root_of metadata) d a b h

-- the last two together
pub short_last : (deltas : List Source) → AllShort deltas → ShortLast deltas
unfolding AllShort
short_last [] short = tt
short_last (b ∷ []) short = tt
short_last (b ∷ a ∷ older) short =
    let p = short.0.stream in
    let q = short.1.0.stream in
    let r = short.0.code in
    let t = short.1.0.code in
    (grind (arith, p, q), grind (arith, r, t))
