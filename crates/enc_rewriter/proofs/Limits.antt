-- Which heap is the first that passes its limit.
use Rattle.std.proofs.Common.{◌≡◌, ℕ, ◌≤◌, Bool, true, false, List, [], ◌∷◌, Option, Some, None, Result, Ok, Err, refl, sym, ap, ◌∙◌, arith}
use Rattle.std.specs.Prelude.{nat_lt, if◌then◌else◌}
use Rattle.std.proofs.lemmas.Bool.Decides.{nat_tests}
use Rattle.enc_base.specs.declared.refusal.StreamName.{StreamName}
use Rattle.enc_base.specs.declared.refusal.StreamName.TheVariants.{Strings, Users, Blobs, Guids}
use Rattle.enc_meta.specs.Built.{Built, AreWithinLimits}
use Rattle.enc_meta.specs.declared.builder.BuildFault.{BuildFault}
use Rattle.enc_meta.specs.declared.builder.BuildFault.TheVariants.{Memory, TooLarge}
use Rattle.enc_meta.specs.declared.heaps.HeapLengths.{HeapLengths}
use Rattle.enc_plain.specs.Module.{Module}
use Rattle.enc_rewriter.specs.Values.{with_one, with_all, all_values, no_starts, no_heaps, heaps_for, heap_size, heap_limit, IsPast, PassEnds, passes_limit, too_large_heap, TellsHeap}
use Rattle.enc_rewriter.specs.declared.pass.Pass.{Pass}
use Rattle.enc_rewriter.specs.declared.pass.Pass.TheVariants as pass
use Rattle.enc_rewriter.proofs.Gathered.{starts_after}

not_less : (a b : ℕ) → b ≤ a → nat_lt a b ≡ false
not_less a b le = grind (arith, nat_tests)

within : (p : Pass) (h : Built) → AreWithinLimits h → h.starts ≡ no_starts → heap_size p h ≤ heap_limit p
within pass.Texts h limits none = let z : h.starts.strings ≡ 0 = ap (λ (s : HeapLengths). s.strings) none in omega (arith, limits.texts, z)
within pass.Users h limits none = let z : h.starts.users ≡ 0 = ap (λ (s : HeapLengths). s.users) none in omega (arith, limits.users, z)
within pass.Blobs h limits none = let z : h.starts.blobs ≡ 0 = ap (λ (s : HeapLengths). s.blobs) none in omega (arith, limits.blobs, z)
within pass.Guids h limits none = let z : h.starts.guids ≡ 0 = ap (λ (s : HeapLengths). s.guids) none in omega (arith, limits.guids, z)

pub pass_ends : (p : Pass) (h : Built) → AreWithinLimits h → h.starts ≡ no_starts → nat_lt (heap_limit p) (heap_size p h) ≡ false
pass_ends p h limits none = not_less (heap_limit p) (heap_size p h) (within p h limits none)

pub pass_past : (e : BuildFault) (p : Pass) (h : Built) → IsPast (Err e) p h → PassEnds (Err e) p h
pass_past Memory p h is = tt
pass_past (TooLarge heap) p h is = is

pub starts_stay : (p : Pass) (h : Built) (vs : List (List ℕ)) → h.starts ≡ no_starts → (with_all p h vs).starts ≡ no_starts
starts_stay p h vs none = starts_after p h vs ∙ none

-- a pass changes no other heap's size
abbrev others : Pass → Pass → Bool
others pass.Texts pass.Texts = false
others pass.Users pass.Users = false
others pass.Blobs pass.Blobs = false
others pass.Guids pass.Guids = false
others _ _ = true

one_same : (p q : Pass) (h : Built) (v : List ℕ) → others p q ≡ true → heap_size p (with_one q h v) ≡ heap_size p h
one_same pass.Texts pass.Texts h v e = absurd cc
one_same pass.Texts pass.Users h v e = refl
one_same pass.Texts pass.Blobs h v e = refl
one_same pass.Texts pass.Guids h v e = refl
one_same pass.Users pass.Texts h v e = refl
one_same pass.Users pass.Users h v e = absurd cc
one_same pass.Users pass.Blobs h v e = refl
one_same pass.Users pass.Guids h v e = refl
one_same pass.Blobs pass.Texts h v e = refl
one_same pass.Blobs pass.Users h v e = refl
one_same pass.Blobs pass.Blobs h v e = absurd cc
one_same pass.Blobs pass.Guids h v e = refl
one_same pass.Guids pass.Texts h v e = refl
one_same pass.Guids pass.Users h v e = refl
one_same pass.Guids pass.Blobs h v e = refl
one_same pass.Guids pass.Guids h v e = absurd cc

all_same : (p q : Pass) (h : Built) (vs : List (List ℕ)) → others p q ≡ true → heap_size p (with_all q h vs) ≡ heap_size p h
unfolding with_all
all_same p q h [] e = refl
all_same p q h (v ∷ vs) e = all_same p q (with_one q h v) vs e ∙ one_same p q h v e

-- the heaps after each pass
abbrev pub after_texts : Module → Built
after_texts m = with_all pass.Texts no_heaps (all_values pass.Texts m)

abbrev pub after_users : Module → Built
after_users m = with_all pass.Users (after_texts m) (all_values pass.Users m)

abbrev pub after_blobs : Module → Built
after_blobs m = with_all pass.Blobs (after_users m) (all_values pass.Blobs m)

pub all_passes : (m : Module) → heaps_for m ≡ with_all pass.Guids (after_blobs m) (all_values pass.Guids m)
unfolding heaps_for
all_passes m = refl

texts_size : (m : Module) → heap_size pass.Texts (heaps_for m) ≡ heap_size pass.Texts (after_texts m)
unfolding heaps_for
texts_size m = all_same pass.Texts pass.Guids _ _ refl ∙ all_same pass.Texts pass.Blobs _ _ refl ∙ all_same pass.Texts pass.Users _ _ refl

users_size : (m : Module) → heap_size pass.Users (heaps_for m) ≡ heap_size pass.Users (after_users m)
unfolding heaps_for
users_size m = all_same pass.Users pass.Guids _ _ refl ∙ all_same pass.Users pass.Blobs _ _ refl

blobs_size : (m : Module) → heap_size pass.Blobs (heaps_for m) ≡ heap_size pass.Blobs (after_blobs m)
unfolding heaps_for
blobs_size m = all_same pass.Blobs pass.Guids _ _ refl

limit_is : (p : Pass) (m : Module) (h : Built) (b : Bool) → heap_size p (heaps_for m) ≡ heap_size p h → nat_lt (heap_limit p) (heap_size p h) ≡ b → passes_limit p m ≡ b
unfolding passes_limit
limit_is p m h b e is = ap (nat_lt (heap_limit p)) e ∙ is

abbrev first_told : (a b c d : Bool) → Option StreamName
first_told a b c d = if a then Some Strings else if b then Some Users else if c then Some Blobs else if d then Some Guids else None

told_is : (m : Module) (a b c d : Bool) → passes_limit pass.Texts m ≡ a → passes_limit pass.Users m ≡ b → passes_limit pass.Blobs m ≡ c → passes_limit pass.Guids m ≡ d
    → too_large_heap m ≡ first_told a b c d
unfolding too_large_heap
told_is m a b c d e f g h = rw (e, f, g, h) refl

pub texts_told : (e : BuildFault) (m : Module) → PassEnds (Err e) pass.Texts (after_texts m) → TellsHeap {A = Unit} (Err e) (too_large_heap m)
texts_told Memory m is = tt
texts_told (TooLarge heap) m is =
    told_is m true _ _ _ (limit_is pass.Texts m (after_texts m) true (texts_size m) is.1) refl refl refl ∙ ap Some (sym is.0)

pub users_told : (e : BuildFault) (m : Module) → nat_lt (heap_limit pass.Texts) (heap_size pass.Texts (after_texts m)) ≡ false → PassEnds (Err e) pass.Users (after_users m)
    → TellsHeap {A = Unit} (Err e) (too_large_heap m)
users_told Memory m a is = tt
users_told (TooLarge heap) m a is =
    told_is m false true _ _ (limit_is pass.Texts m (after_texts m) false (texts_size m) a) (limit_is pass.Users m (after_users m) true (users_size m) is.1) refl refl ∙ ap Some (sym is.0)

pub blobs_told : (e : BuildFault) (m : Module) → nat_lt (heap_limit pass.Texts) (heap_size pass.Texts (after_texts m)) ≡ false
    → nat_lt (heap_limit pass.Users) (heap_size pass.Users (after_users m)) ≡ false → PassEnds (Err e) pass.Blobs (after_blobs m) → TellsHeap {A = Unit} (Err e) (too_large_heap m)
blobs_told Memory m a b is = tt
blobs_told (TooLarge heap) m a b is =
    told_is m false false true _ (limit_is pass.Texts m (after_texts m) false (texts_size m) a) (limit_is pass.Users m (after_users m) false (users_size m) b)
    (limit_is pass.Blobs m (after_blobs m) true (blobs_size m) is.1) refl ∙ ap Some (sym is.0)

pub all_told : (r : Result Unit BuildFault) (m : Module) → nat_lt (heap_limit pass.Texts) (heap_size pass.Texts (after_texts m)) ≡ false
    → nat_lt (heap_limit pass.Users) (heap_size pass.Users (after_users m)) ≡ false → nat_lt (heap_limit pass.Blobs) (heap_size pass.Blobs (after_blobs m)) ≡ false
    → PassEnds r pass.Guids (heaps_for m) → TellsHeap {A = Unit} r (too_large_heap m)
all_told (Err Memory) m a b c is = tt
all_told (Err (TooLarge heap)) m a b c is =
    told_is m false false false true (limit_is pass.Texts m (after_texts m) false (texts_size m) a) (limit_is pass.Users m (after_users m) false (users_size m) b)
    (limit_is pass.Blobs m (after_blobs m) false (blobs_size m) c) (limit_is pass.Guids m (heaps_for m) true refl is.1) ∙ ap Some (sym is.0)
all_told (Ok x) m a b c is =
    told_is m false false false false (limit_is pass.Texts m (after_texts m) false (texts_size m) a) (limit_is pass.Users m (after_users m) false (users_size m) b)
    (limit_is pass.Blobs m (after_blobs m) false (blobs_size m) c) (limit_is pass.Guids m (heaps_for m) false refl is)

pub no_heaps_begin : (h : Built) → h ≡ no_heaps → h.starts ≡ no_starts
unfolding no_heaps
no_heaps_begin h none = ap (λ (k : Built). k.starts) none

pub begins_after : (p : Pass) (old new : Built) (vs : List (List ℕ)) → new ≡ with_all p old vs → old.starts ≡ no_starts → new.starts ≡ no_starts
begins_after p old new vs is none = ap (λ (k : Built). k.starts) is ∙ starts_stay p old vs none

pub ruleset limits_steps = (pass_ends, pass_past, starts_stay)
