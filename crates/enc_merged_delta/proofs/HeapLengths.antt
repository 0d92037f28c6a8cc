-- The heaps of the merged delta are no longer than those of the two, and have as many GUIDs as the chain after both: so they are within the limits.
use Rattle.std.proofs.Common.{◌≡◌, ℕ, zero, suc, ◌+◌, ◌*◌, ◌/◌, ◌-◌, ◌<◌, ◌≤◌, Bool, true, false, cond, not, List, [], ◌∷◌, ◌++◌, length, map, take, drop, Option, None, refl, sym, ap, ◌∙◌, arith}
use Rattle.std.specs.Prelude.{◌&&◌, ◌==◌, ◌^◌, nat_lt, nat_le, max, flat_map, unwrap_or, if◌then◌else◌}
use Rattle.std.specs.List.{range_with_len}
use Rattle.std.proofs.lemmas.Bool.{and_parts, eqb-true, or_parts}
use Rattle.std.proofs.lemmas.Bool.Decides.{nat_tests}
use Rattle.std.proofs.lemmas.List.{length-append, length-take}
use Rattle.enc_base.specs.declared.refusal.Place.TheVariants as place
use Rattle.enc_base.specs.declared.refusal.StreamName.TheVariants as name
use Rattle.enc_meta.specs.Heaps.{Counted, filled, counted_strings, sixteen_at}
use Rattle.enc_meta.specs.Joined.{first_guid, joined_lengths, guid_entries}
use Rattle.enc_meta.proofs.EntryLengths.{length_taken, length_dropped}
use Rattle.enc_meta.specs.declared.heaps.HeapLengths.{HeapLengths}
use Rattle.enc_meta.proofs.JoinedLengths.{most_more, lengths_more}
use Rattle.enc_plain.specs.Chain.{Chain}
use Rattle.enc_rows.specs.Source.{Source}
use Rattle.enc_rows.specs.Sums.{below}
use Rattle.enc_delta.specs.Rules.{heaps_after, last_byte, strings_break, users_break, blobs_break, guids_break, heap_fault}
use Rattle.enc_delta.proofs.HeapLimits.{strings_after, users_after, blobs_after, guids_after, limited}
use Rattle.enc_delta.proofs.Unbroken.{landed}
use Rattle.enc_agg.specs.Extend.{extended}
use Rattle.enc_merged_delta.specs.Merged.{MayMerge, SaysMerged, after_both, guids_joined, heaps_merged}
use Rattle.enc_merged_delta.specs.Laws.{KeepsMerged}
use Rattle.enc_merged_delta.proofs.Silent.{unbroken_is, first_silent}

-- the last byte of texts that count is a zero where that of all bytes is
last_behind : (b : ℕ) (rest : List ℕ) → 0 < length rest → last_byte (b ∷ rest) ≡ last_byte rest
last_behind b [] some = absurd (omega arith)
last_behind b (d ∷ rest) some =
    let e : suc (suc (length rest)) - 1 ≡ suc (suc (length rest) - 1) = omega arith in
    rw e refl

counted_some : (heap : List ℕ) → 0 < length heap → 0 < length (counted_strings heap)
unfolding counted_strings
counted_some [] some = absurd (omega arith)
counted_some (b ∷ rest) some = let e : filled (b ∷ rest) + 1 ≡ suc (filled (b ∷ rest)) = omega arith in rw e (omega arith)

zero_step : (b : ℕ) (rest : List ℕ) (none : Bool) → (filled rest == 0 && b == 0) ≡ none → last_byte (b ∷ rest) ≡ 0 → (last_byte rest ≡ 0 → last_byte (take (filled rest + 1) rest) ≡ 0) → last_byte (take ((if none then 0 else suc (filled rest)) + 1) (b ∷ rest)) ≡ 0
unfolding counted_strings
zero_step b rest true is last more = eqb-true b 0 (and_parts (filled rest == 0) (b == 0) is).1
zero_step b [] false is last more = let zero_there : (b == 0) ≡ true = grind (arith, nat_tests, last) in let f : true ≡ false = sym zero_there ∙ is in absurd cc
zero_step b (d ∷ rest) false is last more =
    let e : suc (filled (d ∷ rest)) + 1 ≡ suc (filled (d ∷ rest) + 1) = omega arith in
    rw e (last_behind b (take (filled (d ∷ rest) + 1) (d ∷ rest)) (counted_some (d ∷ rest) (omega arith)) ∙ more (sym (last_behind b (d ∷ rest) (omega arith)) ∙ last))

pub counted_last : (heap : List ℕ) → last_byte heap ≡ 0 → last_byte (counted_strings heap) ≡ 0
unfolding counted_strings
counted_last [] last = refl
counted_last (b ∷ rest) last = zero_step b rest (filled rest == 0 && b == 0) refl last (counted_last rest)

-- of two lists that end with a zero so does the one with the other behind it
last_both : (xs ys : List ℕ) → last_byte xs ≡ 0 → last_byte ys ≡ 0 → last_byte (xs ++ ys) ≡ 0
last_both [] ys h k = k
last_both (x ∷ []) [] h k = h
last_both (x ∷ []) (y ∷ ys) h k = last_behind x (y ∷ ys) (omega arith) ∙ k
last_both (x ∷ z ∷ xs) ys h k =
    last_behind x ((z ∷ xs) ++ ys) (omega arith) ∙ last_both (z ∷ xs) ys (sym (last_behind x (z ∷ xs) (omega arith)) ∙ h) k

counted_few : (heap : List ℕ) → length (counted_strings heap) ≤ length heap
unfolding counted_strings
counted_few heap = omega (arith, length-take (filled heap + 1) heap)

-- each entry of the joined GUIDs has sixteen bytes
taken_long : (heap : List ℕ) (k : ℕ) → 16 * k + 16 ≤ length heap → length (unwrap_or (sixteen_at heap k) []) ≡ 16
unfolding sixteen_at
taken_long heap k le =
    let e : nat_le (16 * k + 16) (length heap) ≡ true = grind (arith, nat_tests) in
    rw e (length_taken 16 (drop (16 * k) heap) (omega (arith, length_dropped (16 * k) heap)))

first_step : (h : List ℕ) (k others : ℕ) (b : Bool) (later : Option (List ℕ)) → nat_le (16 * k + 16) (length h) ≡ b → k < max (length h / 16) others → (k < others → length (unwrap_or later []) ≡ 16) → length (unwrap_or (cond b (sixteen_at h k) later) []) ≡ 16
first_step h k others true later is less rest = taken_long h k (grind (arith, nat_tests, is))
first_step h k others false later is less rest =
    let short : length h < 16 * k + 16 = grind (arith, nat_tests, is) in
    rest (omega arith)

pub first_there : (heaps : List Counted) (k : ℕ) → k < guid_entries heaps → length (unwrap_or (first_guid (map (λ (h : Counted). h.guids) heaps) k) []) ≡ 16
unfolding first_guid
first_there [] k less = absurd (omega arith)
first_there (h ∷ heaps) k less = first_step h.guids k (guid_entries heaps) (nat_le (16 * k + 16) (length h.guids)) _ refl less (first_there heaps k)

all_long : (f : ℕ → List ℕ) (a n : ℕ) → ((k : ℕ) → k < a + n → length (f k) ≡ 16) → length (flat_map f (range_with_len a n)) ≡ 16 * n
all_long f a zero each = refl
all_long f a (suc n) each =
    let first = each a (omega arith) in
    let rest = all_long f (a + 1) n (λ k low. each k (omega (arith, low))) in
    let both = length-append (f a) (flat_map f (range_with_len (a + 1) n)) in
    omega arith

pub guids_long : (heaps : List Counted) → length (guids_joined heaps) ≡ 16 * guid_entries heaps
unfolding guids_joined below
guids_long heaps = all_long (λ k. unwrap_or (first_guid (map (λ (h : Counted). h.guids) heaps) k) []) 0 (guid_entries heaps) (λ k low. first_there heaps k (omega (arith, low)))

-- the heaps of a chain with a delta
heaps_extended : (c : Chain) (a : Source) → (extended c a).heaps ≡ heaps_after c a
unfolding extended
heaps_extended c a = refl

-- no heap is too long with those of the first and the second behind it
pub record Room (c : Chain) (a b : Source) : Type 0 where
  pub strings : (joined_lengths c.heaps).strings + length a.heaps.strings + length b.heaps.strings ≤ 2 ^ 29
  pub users : (joined_lengths c.heaps).users + length a.heaps.users + length b.heaps.users ≤ 2 ^ 24
  pub blobs : (joined_lengths c.heaps).blobs + length a.heaps.blobs + length b.heaps.blobs ≤ 2 ^ 29

pub room : (c : Chain) (a b : Source) → heap_fault (extended c a) b ≡ None → Room c a b
room c a b h =
    let t = joined_lengths c.heaps in
    let more : HeapLengths = record { strings = t.strings + length a.heaps.strings; users = t.users + length a.heaps.users; blobs = t.blobs + length a.heaps.blobs; guids = max t.guids (length a.heaps.guids / 16) } in
    let is : more ≡ joined_lengths (extended c a).heaps = lengths_more c.heaps a.heaps t more refl refl refl refl refl ∙ ap joined_lengths (sym (heaps_extended c a)) in
    let within = limited (extended c a) b more is h in
    record { strings = within.strings; users = within.users; blobs = within.blobs }

ends_with_zero : (heap : List ℕ) → not (last_byte heap == 0) ≡ false → last_byte heap ≡ 0
ends_with_zero heap h = grind (arith, nat_tests, h)

last_zero : (c : Chain) (s : Source) → heap_fault c s ≡ None → last_byte s.heaps.strings ≡ 0
unfolding heap_fault strings_break
last_zero c s h = ends_with_zero s.heaps.strings (or_parts _ _ (first_silent _ (place.Stream name.Strings) _ h).0).1

pub guids_unbroken : (c : Chain) (s : Source) → heap_fault c s ≡ None → guids_break c s ≡ false
unfolding heap_fault
guids_unbroken c s h =
    let users = (first_silent _ (place.Stream name.Strings) _ h).1 in
    let blobs = (first_silent _ (place.Stream name.Users) _ users).1 in
    unbroken_is _ (place.Stream name.Guids) (first_silent _ (place.Stream name.Blobs) _ blobs).1

pub few_guids : (c : Chain) (s : Source) → heap_fault c s ≡ None → 16 * guid_entries (heaps_after c s) ≤ 2 ^ 29
unfolding guids_break
few_guids c s h =
    let few : nat_lt (2 ^ 29) (16 * guid_entries (heaps_after c s)) ≡ false = (or_parts _ _ (guids_unbroken c s h)).0 in
    grind (arith, nat_tests, few)

not_past : (limit n : ℕ) → n ≤ limit → nat_lt limit n ≡ false
not_past limit n le = grind (arith, nat_tests, le)

strings_keep : (c : Chain) (a b s : Source) → MayMerge c a b → SaysMerged c a b s → strings_break c s ≡ false
unfolding heaps_merged
strings_keep c a b s may says =
    let early = landed (extended c a) b may.second.lands.early in
    let have = (room c a b early.heaps).strings in
    let e : s.heaps.strings ≡ counted_strings (a.heaps.strings ++ b.heaps.strings) = ap (λ (h : Counted). h.strings) says.heaps in
    let few = counted_few (a.heaps.strings ++ b.heaps.strings) in
    let both = length-append a.heaps.strings b.heaps.strings in
    let end : last_byte s.heaps.strings ≡ 0 = ap last_byte e ∙ counted_last (a.heaps.strings ++ b.heaps.strings) (last_both a.heaps.strings b.heaps.strings (last_zero c a (landed c a may.first.lands.early).heaps) (last_zero (extended c a) b early.heaps)) in
    let low : (joined_lengths c.heaps).strings + length s.heaps.strings ≤ 2 ^ 29 = rw e (omega (arith, few, both, have)) in
    strings_after c s (joined_lengths c.heaps) refl ∙ rw (not_past (2 ^ 29) _ low, end) refl

users_keep : (c : Chain) (a b s : Source) → MayMerge c a b → SaysMerged c a b s → users_break c s ≡ false
unfolding heaps_merged
users_keep c a b s may says =
    let have = (room c a b (landed (extended c a) b may.second.lands.early).heaps).users in
    let e : length s.heaps.users ≡ length a.heaps.users + length b.heaps.users = ap (λ (h : Counted). length h.users) says.heaps ∙ length-append a.heaps.users b.heaps.users in
    users_after c s (joined_lengths c.heaps) refl ∙ not_past (2 ^ 24) _ (omega (arith, e, have))

blobs_keep : (c : Chain) (a b s : Source) → MayMerge c a b → SaysMerged c a b s → blobs_break c s ≡ false
unfolding heaps_merged
blobs_keep c a b s may says =
    let have = (room c a b (landed (extended c a) b may.second.lands.early).heaps).blobs in
    let e : length s.heaps.blobs ≡ length a.heaps.blobs + length b.heaps.blobs = ap (λ (h : Counted). length h.blobs) says.heaps ∙ length-append a.heaps.blobs b.heaps.blobs in
    blobs_after c s (joined_lengths c.heaps) refl ∙ not_past (2 ^ 29) _ (omega (arith, e, have))

entries_after : (c : Chain) (a : Source) → guid_entries (extended c a).heaps ≡ max (guid_entries c.heaps) (length a.heaps.guids / 16)
entries_after c a = ap guid_entries (heaps_extended c a) ∙ most_more (λ (h : Counted). length h.guids / 16) c.heaps a.heaps

guids_keep : (c : Chain) (a b s : Source) → MayMerge c a b → SaysMerged c a b s → guids_break c s ≡ false
unfolding heaps_merged joined_lengths
guids_keep c a b s may says =
    let n = guid_entries (after_both c a b).heaps in
    let e : length s.heaps.guids ≡ 16 * n = ap (λ (h : Counted). length h.guids) says.heaps ∙ guids_long (after_both c a b).heaps in
    let first = entries_after c a in
    let second = entries_after (extended c a) b in
    let few : 16 * n ≤ 2 ^ 29 = rw (heaps_extended (extended c a) b) (few_guids (extended c a) b (landed (extended c a) b may.second.lands.early).heaps) in
    let own : length s.heaps.guids / 16 ≡ n = omega (arith, e) in
    let more : nat_lt n (guid_entries c.heaps) ≡ false = not_past n (guid_entries c.heaps) (omega (arith, first, second)) in
    guids_after c s (joined_lengths c.heaps) refl ∙ rw (own, more, not_past (2 ^ 29) (16 * n) few) refl

-- E5
pub keeps_heaps : KeepsMerged heap_fault
unfolding heap_fault
keeps_heaps c a b s may says = rw (strings_keep c a b s may says, users_keep c a b s may says, blobs_keep c a b s may says, guids_keep c a b s may says) refl
