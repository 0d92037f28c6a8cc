-- A value that the heaps have already has its offset there, and adding it again changes nothing.
use Rattle.std.proofs.Common.{◌≡◌, ℕ, ◌+◌, ◌<◌, Bool, true, false, List, [], ◌∷◌, ◌++◌, length, Some, refl, sym, ap, ◌∙◌, arith}
use Rattle.std.specs.Prelude.{◌^◌, ◌||◌, sum_by, bytes_eq, if◌then◌else◌}
use Rattle.enc_base.specs.Numbers.{is_empty, spelled}
use Rattle.enc_meta.specs.Built.{Built, AreWithinLimits, is_kept, is_among, is_guid_kept, with_value, with_entry, with_text, with_user, with_blob, with_guid, passes, entry_passes, text_passes, user_passes, blob_passes, guid_passes, place_among, offset_in, joined_end, text_offset, user_offset, blob_offset, guid_number, user_bytes, mark_of, heaps_built}
use Rattle.enc_meta.specs.BuiltLaws.{IsGood, ArePast}
use Rattle.enc_meta.specs.declared.heaps.HeapLengths.{HeapLengths}
use Rattle.std.proofs.lemmas.List.{length-append}
use Rattle.std.proofs.lemmas.List.Sums.{sum_by-cons}
use Rattle.enc_meta.specs.Heaps.{text_at, user_at, blob_at, guid_at}
use Rattle.enc_meta.proofs.Alone.{text_alone, user_alone, blob_alone, guid_alone}
use Rattle.enc_meta.proofs.BuiltMeanings.{texts_are_read, users_are_read, blobs_are_read, guids_are_read}
use Rattle.enc_rewriter.specs.Values.{no_starts}

by_value : (values : List (List ℕ)) (v : List ℕ) → is_kept values v ≡ true → with_value values v ≡ values
unfolding with_value
by_value values v kept = rw kept refl

by_entry : (guids : List (List ℕ)) (g : List ℕ) → is_guid_kept guids g ≡ true → with_entry guids g ≡ guids
unfolding with_entry
by_entry guids g kept = rw kept refl

by_pass : (encode : List ℕ → List ℕ) (limit start : ℕ) (values : List (List ℕ)) (v : List ℕ) → is_kept values v ≡ true → passes encode limit start values v ≡ false
unfolding passes
by_pass encode limit start values v kept = rw kept refl

pub text_kept : (h : Built) (v : List ℕ) → is_kept h.texts v ≡ true → (with_text h v ≡ h) × (text_passes h v ≡ false)
text_kept h v kept = (rw (by_value h.texts v kept) refl, by_pass _ (2 ^ 29) h.starts.strings h.texts v kept)

pub user_kept : (h : Built) (v : List ℕ) → is_kept h.users v ≡ true → (with_user h v ≡ h) × (user_passes h v ≡ false)
user_kept h v kept = (rw (by_value h.users v kept) refl, by_pass _ (2 ^ 24) h.starts.users h.users v kept)

pub blob_kept : (h : Built) (v : List ℕ) → is_kept h.blobs v ≡ true → (with_blob h v ≡ h) × (blob_passes h v ≡ false)
blob_kept h v kept = (rw (by_value h.blobs v kept) refl, by_pass _ (2 ^ 29) h.starts.blobs h.blobs v kept)

pub guid_kept : (h : Built) (v : List ℕ) → is_guid_kept h.guids v ≡ true → (with_guid h v ≡ h) × (guid_passes h v ≡ false)
unfolding entry_passes
guid_kept h v kept = (rw (by_entry h.guids v kept) refl, rw kept refl)

past_none : (h : Built) → h.starts ≡ no_starts → ArePast [] h.starts
past_none h none = rw none (record { strings = refl; users = refl; blobs = refl; guids = refl })

pub text_told : (h : Built) (v : List ℕ) → IsGood h → h.starts ≡ no_starts → is_kept h.texts v ≡ true → text_at (heaps_built h).strings (text_offset h v) ≡ Some v
text_told h v good none kept = sym (text_alone (heaps_built h) (text_offset h v)) ∙ texts_are_read [] h v good (past_none h none) kept

pub user_told : (h : Built) (v : List ℕ) → IsGood h → h.starts ≡ no_starts → is_kept h.users v ≡ true → user_at (heaps_built h).users (user_offset h v) ≡ Some v
user_told h v good none kept = sym (user_alone (heaps_built h) (user_offset h v)) ∙ users_are_read [] h v good (past_none h none) kept

pub blob_told : (h : Built) (v : List ℕ) → IsGood h → h.starts ≡ no_starts → is_kept h.blobs v ≡ true → blob_at (heaps_built h).blobs (blob_offset h v) ≡ Some v
blob_told h v good none kept = sym (blob_alone (heaps_built h) (blob_offset h v)) ∙ blobs_are_read [] h v good (past_none h none) kept

pub guid_told : (h : Built) (v : List ℕ) → IsGood h → h.starts ≡ no_starts → is_guid_kept h.guids v ≡ true → guid_at (heaps_built h).guids (guid_number h v) ≡ Some v
guid_told h v good none kept = sym (guid_alone (heaps_built h) (guid_number h v)) ∙ guids_are_read [] h v good (past_none h none) kept

place_test : (encode : List ℕ → List ℕ) (at : ℕ) (w : List ℕ) (rest : List (List ℕ)) (v : List ℕ) (b : Bool) → 0 < length (encode w)
    → (is_among rest v ≡ true → place_among encode (at + length (encode w)) rest v < at + length (encode w) + sum_by (λ (x : List ℕ). length (encode x)) rest)
    → (b || is_among rest v) ≡ true
    → (if b then at else place_among encode (at + length (encode w)) rest v) < at + (length (encode w) + sum_by (λ (x : List ℕ). length (encode x)) rest)
place_test encode at w rest v true some later there = omega (arith, some)
place_test encode at w rest v false some later there = omega (arith, later there)

place_low : (encode : List ℕ → List ℕ) → ((x : List ℕ) → 0 < length (encode x)) → (at : ℕ) (values : List (List ℕ)) (v : List ℕ) → is_among values v ≡ true
    → place_among encode at values v < at + sum_by (λ (x : List ℕ). length (encode x)) values
unfolding place_among
place_low encode some at [] v there = absurd cc
place_low encode some at (w ∷ rest) v there =
    rw (sum_by-cons (λ (x : List ℕ). length (encode x)) w rest) (place_test encode at w rest v (bytes_eq w v) (some w) (λ e. place_low encode some (at + length (encode w)) rest v e) there)

offset_test : (encode : List ℕ → List ℕ) → ((x : List ℕ) → 0 < length (encode x)) → (start : ℕ) (values : List (List ℕ)) (v : List ℕ) (b : Bool)
    → (b || is_among values v) ≡ true → (if b then 0 else place_among encode (start + 1) values v) < joined_end encode start values
unfolding joined_end
offset_test encode some start values v true there = omega arith
offset_test encode some start values v false there = place_low encode some (start + 1) values v there

user_some : (v : List ℕ) → 0 < length (user_bytes v)
user_some v = rw (length-append (spelled (length (v ++ mark_of v ∷ []))) (v ++ mark_of v ∷ []), length-append v (mark_of v ∷ [])) (omega arith)

-- an offset in `#US` has three bytes
pub user_low : (h : Built) (v : List ℕ) → AreWithinLimits h → h.starts ≡ no_starts → is_kept h.users v ≡ true → user_offset h v < 2 ^ 24
unfolding is_kept offset_in
user_low h v within none kept =
    let low = offset_test user_bytes user_some h.starts.users h.users v (is_empty v) kept in
    let start : h.starts.users ≡ 0 = ap (λ (s : HeapLengths). s.users) none in
    omega (arith, low, within.users, start)

pub ruleset user_steps = (user_kept, user_told, user_low)
