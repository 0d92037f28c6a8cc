-- The numbers of `#GUID` that the generations have, and what stays whatever comes behind.
use Rattle.std.proofs.Common.{◌≡◌, ℕ, suc, ◌+◌, ◌*◌, ◌/◌, ◌<◌, ◌≤◌, Bool, true, false, List, [], ◌∷◌, ◌++◌, length, map, Option, Some, None, refl, ap, ◌∙◌, inl, inr, arith}
use Rattle.std.specs.Prelude.{nat_le, if◌then◌else◌, option_map}
use Rattle.std.proofs.lemmas.Bool.{cases_lt}
use Rattle.std.proofs.lemmas.Bool.Decides.{nat_tests}
use Rattle.std.proofs.lemmas.List.{map-append}
use Rattle.std.proofs.Math.Nat.{div-add-mod}
use Rattle.std.proofs.lemmas.Nat.{mod_below}
use Rattle.enc_base.specs.Order.{or_else}
use Rattle.enc_meta.specs.Heaps.{Counted, sixteen_at, guid_at}
use Rattle.enc_meta.specs.Joined.{joined_lengths, joined_guid, first_guid, guid_entries}
use Rattle.enc_meta.specs.HeapKinds.{bytes_in}
use Rattle.enc_meta.specs.declared.heap.Heap.{Heap}
use Rattle.enc_delta.proofs.OneHeapMore as more
use Rattle.enc_agg.specs.declared.place.HeapPlace.{HeapPlace}
use Rattle.enc_agg.specs.declared.heaps.Measure.TheVariants.{Bytes, Guids}
use Rattle.enc_agg.specs.Place.{later, heap_place, guid_place}
use Rattle.enc_agg.specs.Starts.{measure_in}
use Rattle.enc_agg.proofs.HeapPlaces as places

whole : (n len : ℕ) → 16 * n + 16 ≤ len → suc n ≤ len / 16
whole n len h = let parts = div-add-mod len 16 in let rest = mod_below len 16 (omega arith) in omega arith

short : (n len : ℕ) → len < 16 * n + 16 → len / 16 ≤ n
short n len h = let parts = div-add-mod len 16 in omega arith

-- a number below those that there are has an entry
abbrev IsThere : {X : Type 0} → Option X → Type 0
IsThere {X} o = (x : X) × (o ≡ Some x)

there_if : {X : Type 0} (t : Bool) (x : X) (o : Option X) → (t ≡ false → IsThere o) → IsThere (if t then Some x else o)
there_if true x o h = (x, refl)
there_if false x o h = h refl

twice : {X : Type 0} (t : Bool) (x : X) (o : Option X) → (t ≡ false → IsThere o) → IsThere (if t then (if t then Some x else None) else o)
twice true x o h = (x, refl)
twice false x o h = h refl

has_first : (n : ℕ) (hs : List Counted) → n < guid_entries hs → IsThere (first_guid (map (λ (c : Counted). c.guids) hs) n)
unfolding first_guid sixteen_at
has_first n [] low = absurd (omega arith)
has_first n (h ∷ hs) low = twice (nat_le (16 * n + 16) (length h.guids)) _ _ (λ past. has_first n hs (rest past))
  where
    rest : nat_le (16 * n + 16) (length h.guids) ≡ false → n < guid_entries hs
    rest past =
        let less : length h.guids < 16 * n + 16 = grind (arith, nat_tests) in
        let few = short n (length h.guids) less in
        omega arith

no_first : (n : ℕ) (hs : List Counted) → guid_entries hs ≤ n → first_guid (map (λ (c : Counted). c.guids) hs) n ≡ None
unfolding first_guid
no_first n [] high = refl
no_first n (h ∷ hs) high =
    let past : nat_le (16 * n + 16) (length h.guids) ≡ false = elim (cases_lt (length h.guids) (16 * n + 16)) [
      | inl less ↦ grind (arith, nat_tests)
      | inr le ↦ absurd (let many = whole n (length h.guids) le in omega arith)
    ] in
    rw past (no_first n hs (omega (arith, high)))

is_first : {X : Type 0} (o p : Option X) → IsThere o → or_else o p ≡ o
is_first o p h = rw h.1 refl

-- so it stays, whatever comes behind
pub guid_stays : (n : ℕ) (hs : List Counted) (h : Counted) → n < measure_in Guids (joined_lengths hs) → joined_guid (hs ++ h ∷ []) (suc n) ≡ joined_guid hs (suc n)
unfolding joined_lengths
guid_stays n hs h low = more.guid_behind hs h (suc n) ∙ is_first _ _ (has_first n hs low)

-- and one past them is that of the last
pub guid_last : (n : ℕ) (hs : List Counted) (h : Counted) → measure_in Guids (joined_lengths hs) ≤ n → joined_guid (hs ++ h ∷ []) (suc n) ≡ guid_at h.guids (suc n)
unfolding joined_lengths
guid_last n hs h high = more.guid_behind hs h (suc n) ∙ rw (no_first n hs high) refl

-- the same of its place
there_later : (o : Option HeapPlace) → IsThere o → IsThere (option_map later o)
there_later o h = (later h.0, ap (option_map later) h.1)

has_place : (n : ℕ) (hs : List Counted) → n < guid_entries hs → IsThere (guid_place (map (λ (c : Counted). c.guids) hs) (suc n))
unfolding guid_place
has_place n [] low = absurd (omega arith)
has_place n (h ∷ hs) low = there_if (nat_le (16 * suc n) (length h.guids)) _ _ (λ past. there_later _ (has_place n hs (rest past)))
  where
    rest : nat_le (16 * suc n) (length h.guids) ≡ false → n < guid_entries hs
    rest past =
        let less : length h.guids < 16 * n + 16 = grind (arith, nat_tests) in
        let few = short n (length h.guids) less in
        omega arith

no_place : (n : ℕ) (hs : List Counted) → guid_entries hs ≤ n → guid_place (map (λ (c : Counted). c.guids) hs) (suc n) ≡ None
unfolding guid_place
no_place n [] high = refl
no_place n (h ∷ hs) high =
    let past : nat_le (16 * suc n) (length h.guids) ≡ false = elim (cases_lt (length h.guids) (16 * n + 16)) [
      | inl less ↦ grind (arith, nat_tests)
      | inr le ↦ absurd (let many = whole n (length h.guids) le in omega arith)
    ] in
    rw (past, no_place n hs (omega (arith, high))) refl

pub guid_place_stays : (n : ℕ) (hs : List Counted) (h : Counted) → n < measure_in Guids (joined_lengths hs) → guid_place (map (λ (c : Counted). c.guids) (hs ++ h ∷ [])) (suc n) ≡ guid_place (map (λ (c : Counted). c.guids) hs) (suc n)
unfolding joined_lengths
guid_place_stays n hs h low =
    ap (λ xs. guid_place xs (suc n)) (map-append (λ (c : Counted). c.guids) hs (h ∷ [])) ∙ places.guid_behind (map (λ (c : Counted). c.guids) hs) h.guids (suc n) ∙ is_first _ _ (has_place n hs low)

pub guid_place_none : (n : ℕ) (hs : List Counted) → measure_in Guids (joined_lengths hs) ≤ n → guid_place (map (λ (c : Counted). c.guids) hs) (suc n) ≡ None
unfolding joined_lengths
guid_place_none n hs high = no_place n hs high

-- and of an offset
pub heap_place_stays : (k : Heap) (n : ℕ) (hs : List Counted) (h : Counted) → n < measure_in (Bytes k) (joined_lengths hs) → heap_place (map (bytes_in k) (hs ++ h ∷ [])) n ≡ heap_place (map (bytes_in k) hs) n
heap_place_stays k n hs h low =
    ap (λ xs. heap_place xs n) (map-append (bytes_in k) hs (h ∷ [])) ∙ places.place_before (map (bytes_in k) hs) (bytes_in k h) n (rw (places.total_joined k hs) at low)

pub no_zero : (heaps : List (List ℕ)) → None ≡ guid_place heaps 0
unfolding guid_place
no_zero [] = refl
no_zero (h ∷ hs) = refl
