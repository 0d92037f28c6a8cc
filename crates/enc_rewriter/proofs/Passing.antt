-- Which limit is told.
use Rattle.std.proofs.Common.{◌≡◌, ℕ, ◌<◌, ◌≤◌, Bool, true, false, Option, Some, None, Err, sym, ap, ◌∙◌, arith}
use Rattle.std.specs.Prelude.{min, nat_le, nat_lt}
use Rattle.std.proofs.lemmas.Bool.Decides.{nat_tests}
use Rattle.enc_base.specs.Order.{or_else}
use Rattle.enc_base.specs.declared.refusal.StreamName.{StreamName}
use Rattle.enc_base.specs.declared.refusal.StreamName.TheVariants as stream
use Rattle.enc_meta.specs.Built.{Built}
use Rattle.enc_meta.specs.declared.builder.BuildFault.{BuildFault}
use Rattle.enc_meta.specs.declared.builder.BuildFault.TheVariants as build
use Rattle.enc_plain.specs.Debug.{PlainPdb}
use Rattle.enc_plain.specs.Module.{Module}
use Rattle.enc_plain.specs.Sound.{row_count}
use Rattle.enc_ppdb.specs.Written.{pdb_weight, IsPdbFault, most_pdb_weight}
use Rattle.enc_rewriter.specs.declared.fault.RewriteFault.TheVariants.{Memory, TooLarge, Image}
use Rattle.enc_rewriter.specs.declared.fault.RewriteFault.{RewriteFault}
use Rattle.enc_rewriter.specs.Limits.{Passed, too_heavy, rewrite_fault_of, is_heavy, limit_after, image_limit, limit_of_pdb, pdb_limit, rewrite_limit, IsFault}
use Rattle.enc_rewriter.specs.Values.{heaps_for, too_large_heap, TellsHeap}
use Rattle.enc_rewriter.specs.Weight.{module_weight, most_weight}

-- a heap that is too large
heap_by : (fault : BuildFault) (first : Option StreamName) (heavy : Bool) → TellsHeap {A = Unit {0}} (Err fault) first → IsFault (rewrite_fault_of fault) (limit_after first heavy)
heap_by build.Memory first heavy told = tt
heap_by (build.TooLarge heap) first heavy told = ap (λ (o : Option StreamName). limit_after o heavy) told

pub heap_told : (m : Module) (fault : BuildFault) (r : RewriteFault) → r ≡ rewrite_fault_of fault → TellsHeap {A = Unit {0}} (Err fault) (too_large_heap m) → IsFault r (image_limit m)
unfolding image_limit
heap_told m fault r is told = rw is (heap_by fault (too_large_heap m) (is_heavy m) told)

-- the weight, where no heap is
heavy_by : (w : ℕ) → most_weight ≤ w → nat_le most_weight w ≡ true
heavy_by w h = grind (arith, nat_tests, h)

light_by : (w : ℕ) → w < most_weight → nat_le most_weight w ≡ false
light_by w h = grind (arith, nat_tests, h)

told_by : (m : Module) (b : Bool) → too_large_heap m ≡ None → is_heavy m ≡ b → image_limit m ≡ limit_after None b
unfolding image_limit
told_by m b none is = ap (λ (o : Option StreamName). limit_after o (is_heavy m)) none ∙ ap (limit_after None) is

pub weight_told : (m : Module) (h : Built) (w : ℕ) → h ≡ heaps_for m → too_large_heap m ≡ None → w ≡ min most_weight (module_weight m h) → most_weight ≤ w → image_limit m ≡ Some too_heavy
unfolding is_heavy
weight_told m h w heaps none is heavy =
    let e : module_weight m h ≡ module_weight m (heaps_for m) = ap (module_weight m) heaps in
    told_by m true none (heavy_by (module_weight m (heaps_for m)) (omega (arith, e, is, heavy)))

pub none_told : (m : Module) (h : Built) (w : ℕ) → h ≡ heaps_for m → too_large_heap m ≡ None → w ≡ min most_weight (module_weight m h) → w < most_weight → image_limit m ≡ None
unfolding is_heavy
none_told m h w heaps none is light =
    let e : module_weight m h ≡ module_weight m (heaps_for m) = ap (module_weight m) heaps in
    told_by m false none (light_by (module_weight m (heaps_for m)) (omega (arith, e, is, light)))

-- the PDB
pdb_by : (fault : BuildFault) (w : ℕ) → IsPdbFault fault w → IsFault (rewrite_fault_of fault) (limit_of_pdb (nat_lt most_pdb_weight w))
pdb_by build.Memory w told = tt
pdb_by (build.TooLarge stream.Pdb) w told = ap limit_of_pdb told
pdb_by (build.TooLarge stream.Compressed) w told = absurd told
pdb_by (build.TooLarge stream.Uncompressed) w told = absurd told
pdb_by (build.TooLarge stream.Strings) w told = absurd told
pdb_by (build.TooLarge stream.Users) w told = absurd told
pdb_by (build.TooLarge stream.Blobs) w told = absurd told
pdb_by (build.TooLarge stream.Guids) w told = absurd told
pdb_by (build.TooLarge stream.Jtd) w told = absurd told

pub pdb_told : (m : Module) (p : PlainPdb) (n : ℕ) (fault : BuildFault) (r : RewriteFault) → n ≡ row_count m 0x06 → r ≡ rewrite_fault_of fault → IsPdbFault fault (pdb_weight p n) → IsFault r (pdb_limit m p)
unfolding pdb_limit
pdb_told m p n fault r many is told = rw (is, ← many) (pdb_by fault (pdb_weight p n) told)

pub pdb_within : (m : Module) (p : PlainPdb) (n : ℕ) → n ≡ row_count m 0x06 → nat_lt most_pdb_weight (pdb_weight p n) ≡ false → pdb_limit m p ≡ None
unfolding pdb_limit
pdb_within m p n many light = ap (λ (k : ℕ). limit_of_pdb (nat_lt most_pdb_weight (pdb_weight p k))) (sym many) ∙ ap limit_of_pdb light

-- both
pub first_told : (m : Module) (p : PlainPdb) (r : RewriteFault) → IsFault r (image_limit m) → IsFault r (rewrite_limit m p)
unfolding rewrite_limit
first_told m p Memory told = tt
first_told m p (TooLarge heap) told = ap (λ (o : Option Passed). or_else o (pdb_limit m p)) told
first_told m p Image told = ap (λ (o : Option Passed). or_else o (pdb_limit m p)) told

pub second_told : (m : Module) (p : PlainPdb) (r : RewriteFault) → image_limit m ≡ None → IsFault r (pdb_limit m p) → IsFault r (rewrite_limit m p)
unfolding rewrite_limit
second_told m p Memory none told = tt
second_told m p (TooLarge heap) none told = ap (λ (o : Option Passed). or_else o (pdb_limit m p)) none ∙ told
second_told m p Image none told = ap (λ (o : Option Passed). or_else o (pdb_limit m p)) none ∙ told

pub neither_told : (m : Module) (p : PlainPdb) → image_limit m ≡ None → pdb_limit m p ≡ None → rewrite_limit m p ≡ None
unfolding rewrite_limit
neither_told m p none light = ap (λ (o : Option Passed). or_else o (pdb_limit m p)) none ∙ light
