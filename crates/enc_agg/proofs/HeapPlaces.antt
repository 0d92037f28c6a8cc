-- Where an offset of joined heaps and an entry of `#GUID` stand, with one generation more.
use Rattle.std.proofs.Common.{◌≡◌, ℕ, zero, suc, ◌+◌, ◌-◌, ◌*◌, ◌<◌, ◌≤◌, Bool, true, false, List, [], ◌∷◌, ◌++◌, length, map, reverse, Option, Some, None, refl, sym, ap, ◌∙◌, arith}
use Rattle.std.specs.Prelude.{if◌then◌else◌, nat_lt, nat_le, option_map}
use Rattle.std.proofs.lemmas.Bool.Decides.{nat_tests}
use Rattle.std.proofs.lemmas.List.{map-append, length-map, length-reverse}
use Rattle.std.proofs.lemmas.List.Sums.{sum_by-append}
use Rattle.enc_base.specs.Order.{or_else}
use Rattle.enc_meta.specs.declared.heap.Heap.{Heap}
use Rattle.enc_meta.specs.declared.heap.Heap.TheVariants as heap
use Rattle.enc_meta.specs.HeapKinds.{bytes_in, length_in}
use Rattle.enc_meta.specs.Heaps.{Counted}
use Rattle.enc_meta.specs.Joined.{joined_length}
use Rattle.enc_rows.specs.Source.{Source}
use Rattle.enc_meta.specs.Joined.{joined_lengths}
use Rattle.enc_agg.specs.declared.added.Added.{Added}
use Rattle.enc_agg.specs.declared.place.HeapPlace.{HeapPlace}
use Rattle.enc_agg.specs.Extend.{chain_with}
use Rattle.enc_agg.specs.Place.{later, heap_place, guid_place}
use Rattle.enc_agg.specs.Seen.{sources, AllAdded, own_place, own_guid_place}
use Rattle.enc_agg.proofs.Histories.{last_added, heaps_with, heaps_alone, heaps_count}

one_later : (t : Bool) (n k : ℕ) → option_map later (if t then Some (record { generation = n; offset = k }) else None) ≡ (if t then Some (record { generation = suc n; offset = k }) else None)
one_later true n k = let e : n + 1 ≡ suc n = omega arith in rw e refl
one_later false n k = refl

place_later : (heap : List ℕ) (n offset : ℕ) → option_map later (own_place heap n offset) ≡ own_place heap (suc n) offset
place_later heap n offset = one_later (nat_lt offset (length heap)) n offset

-- an offset of one heap
place_alone : (heap : List ℕ) (offset : ℕ) → heap_place (heap ∷ []) offset ≡ own_place heap 0 offset
unfolding heap_place
place_alone heap offset = refl

joined_first : (h : List ℕ) (hs : List (List ℕ)) → joined_length (h ∷ hs) ≡ length h + joined_length hs
joined_first h hs = omega (arith, sum_by-append (λ (x : List ℕ). length x) (h ∷ []) hs)

-- an offset within the heaps before stands there
by_first : (t : Bool) (x : Option HeapPlace) (a b : Option HeapPlace) → (t ≡ false → a ≡ b) → (if t then x else option_map later a) ≡ (if t then x else option_map later b)
by_first true x a b same = refl
by_first false x a b same = rw (same refl) refl

pub place_before : (heaps : List (List ℕ)) (heap : List ℕ) (offset : ℕ) → offset < joined_length heaps → heap_place (heaps ++ heap ∷ []) offset ≡ heap_place heaps offset
unfolding heap_place
place_before [] heap offset low = absurd (omega arith)
place_before (h ∷ hs) heap offset low =
    let less = rw (joined_first h hs) at low in
    by_first (nat_lt offset (length h)) _ _ _ (λ past. place_before hs heap (offset - length h) (left offset (length h) (joined_length hs) less past))
  where
    left : (offset first more : ℕ) → offset < first + more → nat_lt offset first ≡ false → offset - first < more
    left offset first more low past = let le : first ≤ offset = grind (arith, nat_tests) in omega arith

-- one behind them stands in the last
place_behind : (heaps : List (List ℕ)) (heap : List ℕ) (offset : ℕ) → joined_length heaps ≤ offset → heap_place (heaps ++ heap ∷ []) offset ≡ own_place heap (length heaps) (offset - joined_length heaps)
unfolding heap_place
place_behind [] heap offset high = let e : offset - 0 ≡ offset = omega arith in rw e (place_alone heap offset)
place_behind (h ∷ hs) heap offset high =
    let more = rw (joined_first h hs) at high in
    let past : nat_lt offset (length h) ≡ false = not_less offset (length h) (joined_length hs) more in
    let e : offset - (length h + joined_length hs) ≡ offset - length h - joined_length hs = omega arith in
    rw (joined_first h hs, past, e, place_behind hs heap (offset - length h) (omega (arith, more))) (place_later heap (length hs) (offset - length h - joined_length hs))
  where
    not_less : (offset first more : ℕ) → first + more ≤ offset → nat_lt offset first ≡ false
    not_less offset first more high = grind (arith, nat_tests)

-- what the heaps have together
pub total_joined : (k : Heap) (heaps : List Counted) → length_in k (joined_lengths heaps) ≡ joined_length (map (bytes_in k) heaps)
unfolding joined_lengths
total_joined heap.Strings heaps = refl
total_joined heap.Users heaps = refl
total_joined heap.Blobs heaps = refl

heaps_many : (b : Source) (older : List Added) (f : Counted → List ℕ) → length (map f (chain_with b (sources older)).heaps) ≡ suc (length older)
heaps_many b older f = omega (arith, length-map (chain_with b (sources older)).heaps f, heaps_count b (sources older), length-map older (λ (x : Added). x.delta))

heaps_more : (b : Source) (a : Added) (older : List Added) (f : Counted → List ℕ) → map f (chain_with b (sources (a ∷ older))).heaps ≡ map f (chain_with b (sources older)).heaps ++ f a.delta.heaps ∷ []
heaps_more b a older f = ap (map f) (heaps_with b a.delta (sources older)) ∙ map-append f (chain_with b (sources older)).heaps (a.delta.heaps ∷ [])

total_is : (b : Source) (a : Added) (older : List Added) (k : Heap) → AllAdded b (a ∷ older) → length_in k a.before ≡ joined_length (map (bytes_in k) (chain_with b (sources older)).heaps)
total_is b a older k all = ap (length_in k) (last_added b a older all).0.before ∙ total_joined k (chain_with b (sources older)).heaps

pub many_parts : (added : List Added) (a : Added) (older : List Added) → reverse added ≡ a ∷ older → length added ≡ length (a ∷ older)
many_parts added a older parts = sym (length-reverse added) ∙ ap length parts

-- the same of a base's heaps and with the newest delta's
pub base_place : (b : Source) (k : Heap) (offset : ℕ) → heap_place (map (bytes_in k) (chain_with b []).heaps) offset ≡ own_place (bytes_in k b.heaps) 0 offset
base_place b k offset = rw (heaps_alone b) (place_alone (bytes_in k b.heaps) offset)

pub newest_place : (b : Source) (a : Added) (older : List Added) (k : Heap) (offset : ℕ) → AllAdded b (a ∷ older) → length_in k a.before ≤ offset → heap_place (map (bytes_in k) (chain_with b (sources (a ∷ older))).heaps) offset ≡ own_place (bytes_in k a.delta.heaps) (length (a ∷ older)) (offset - length_in k a.before)
newest_place b a older k offset all high =
    let total = total_is b a older k all in
    rw (heaps_more b a older (bytes_in k), total, ← heaps_many b older (bytes_in k)) (place_behind _ (bytes_in k a.delta.heaps) offset (omega (arith, high, total)))

-- an entry of `#GUID` stands where it was before, and else in the last
guid_alone : (heap : List ℕ) (k : ℕ) → guid_place (heap ∷ []) k ≡ own_guid_place heap 0 k
unfolding guid_place
guid_alone heap zero = refl
guid_alone heap (suc k) = refl

or_later : (t : Bool) (p : HeapPlace) (a b c : Option HeapPlace) → option_map later b ≡ c → (if t then Some p else option_map later (or_else a b)) ≡ or_else (if t then Some p else option_map later a) c
or_later true p a b c e = refl
or_later false p None b c e = e
or_later false p (Some q) b c e = refl

pub guid_behind : (heaps : List (List ℕ)) (heap : List ℕ) (k : ℕ) → guid_place (heaps ++ heap ∷ []) k ≡ or_else (guid_place heaps k) (own_guid_place heap (length heaps) k)
unfolding guid_place
guid_behind heaps heap zero = refl
guid_behind [] heap (suc k) = refl
guid_behind (h ∷ hs) heap (suc k) =
    rw (guid_behind hs heap (suc k)) (or_later (nat_le (16 * suc k) (length h)) _ (guid_place hs (suc k)) _ _ (one_later (nat_le (16 * suc k) (length heap)) (length hs) (suc k)))

pub base_guid : (b : Source) (k : ℕ) → guid_place (map (λ (h : Counted). h.guids) (chain_with b []).heaps) k ≡ own_guid_place b.heaps.guids 0 k
base_guid b k = rw (heaps_alone b) (guid_alone b.heaps.guids k)

pub newest_guid : (b : Source) (a : Added) (older : List Added) (k : ℕ) → guid_place (map (λ (h : Counted). h.guids) (chain_with b (sources (a ∷ older))).heaps) k ≡ or_else (guid_place (map (λ (h : Counted). h.guids) (chain_with b (sources older)).heaps) k) (own_guid_place a.delta.heaps.guids (length (a ∷ older)) k)
newest_guid b a older k =
    rw (heaps_more b a older (λ (h : Counted). h.guids), ← heaps_many b older (λ (h : Counted). h.guids)) (guid_behind _ a.delta.heaps.guids k)
