-- How long joined heaps are with those of a delta behind them.
use Rattle.std.proofs.Common.{◌≡◌, ℕ, ◌+◌, ◌*◌, ◌/◌, ◌≤◌, Bool, true, false, List, [], ◌∷◌, length, replicate, refl, ap, arith, length-append, if◌then◌else◌}
use Rattle.std.specs.Prelude.{sum_by, flat_map}
use Rattle.std.proofs.lemmas.List.{length-replicate}
use Rattle.std.proofs.lemmas.List.Sums.{sum_by-cons}
use Rattle.enc_meta.specs.Built.{Built, is_guid_kept, with_entry, text_bytes, user_bytes, blob_bytes, heap_bytes, guid_bytes, heaps_built}
use Rattle.enc_meta.specs.BuiltLaws.{heaps_joined}
use Rattle.enc_meta.specs.Heaps.{Counted}
use Rattle.enc_meta.specs.Joined.{joined_lengths}
use Rattle.enc_meta.proofs.JoinedLengths.{length_more, most_more}

flat_length : (f : List ℕ → List ℕ) (vs : List (List ℕ)) → length (flat_map f vs) ≡ sum_by (λ (v : List ℕ). length (f v)) vs
flat_length f [] = refl
flat_length f (v ∷ vs) =
    let n = length-append (f v) (flat_map f vs) in
    let rest = flat_length f vs in
    let all = sum_by-cons (λ (v : List ℕ). length (f v)) v vs in
    omega (arith, n, rest, all)

heap_length : (f : List ℕ → List ℕ) (vs : List (List ℕ)) → length (heap_bytes f vs) ≡ 1 + sum_by (λ (v : List ℕ). length (f v)) vs
unfolding heap_bytes
heap_length f vs = let n = flat_length f vs in omega (arith, n)

-- each heap of bytes is one byte and its values longer
pub strings_more : (hs : List Counted) (h : Built) → (joined_lengths (heaps_joined hs h)).strings ≡ (joined_lengths hs).strings + 1 + sum_by (λ (v : List ℕ). length (text_bytes v)) h.texts
unfolding joined_lengths heaps_built
strings_more hs h =
    let all = length_more (λ (c : Counted). c.strings) hs (heaps_built h) in
    let own = heap_length text_bytes h.texts in
    omega (arith, all, own)

pub users_more : (hs : List Counted) (h : Built) → (joined_lengths (heaps_joined hs h)).users ≡ (joined_lengths hs).users + 1 + sum_by (λ (v : List ℕ). length (user_bytes v)) h.users
unfolding joined_lengths heaps_built
users_more hs h =
    let all = length_more (λ (c : Counted). c.users) hs (heaps_built h) in
    let own = heap_length user_bytes h.users in
    omega (arith, all, own)

pub blobs_more : (hs : List Counted) (h : Built) → (joined_lengths (heaps_joined hs h)).blobs ≡ (joined_lengths hs).blobs + 1 + sum_by (λ (v : List ℕ). length (blob_bytes v)) h.blobs
unfolding joined_lengths heaps_built
blobs_more hs h =
    let all = length_more (λ (c : Counted). c.blobs) hs (heaps_built h) in
    let own = heap_length blob_bytes h.blobs in
    omega (arith, all, own)

-- and `#GUID` has one entry more at most
one_entry : (g : List ℕ) → length g ≡ 16 → length (flat_map (λ (g : List ℕ). g) (with_entry [] g)) ≤ 16
unfolding with_entry
one_entry g is = by (is_guid_kept [] g)
  where
    by : (b : Bool) → length (flat_map (λ (g : List ℕ). g) (if b then [] else g ∷ [])) ≤ 16
    by true = omega arith
    by false = let n = length-append g [] in omega (arith, n, is)

guid_length : (start : ℕ) (g : List ℕ) → length g ≡ 16 → length (guid_bytes start (with_entry [] g)) ≤ 16 * (start + 1)
unfolding guid_bytes
guid_length start g is =
    let n = length-append (replicate (16 * start) 0) (flat_map (λ (g : List ℕ). g) (with_entry [] g)) in
    let z = length-replicate {A = ℕ} (16 * start) 0 in
    let one = one_entry g is in
    omega (arith, n, z, one)

pub guids_more : (hs : List Counted) (h : Built) (g : List ℕ) → h.starts.guids ≡ (joined_lengths hs).guids → h.guids ≡ with_entry [] g → length g ≡ 16 → (joined_lengths (heaps_joined hs h)).guids ≤ (joined_lengths hs).guids + 1
unfolding joined_lengths heaps_built
guids_more hs h g starts guids is =
    let all = most_more (λ (c : Counted). length c.guids / 16) hs (heaps_built h) in
    let own = guid_length h.starts.guids g is in
    let same : length (guid_bytes h.starts.guids h.guids) ≡ length (guid_bytes h.starts.guids (with_entry [] g)) = ap (λ gs. length (guid_bytes h.starts.guids gs)) guids in
    omega (arith, all, own, same, starts)
