-- The laws of written heaps.
use Rattle.std.proofs.Common.{◌≡◌, ℕ, suc, ◌+◌, ◌*◌, ◌%◌, ◌^◌, ◌<◌, Bool, true, false, ◌||◌, List, [], ◌∷◌, ◌++◌, length, drop, map, Some, refl, arith, length-append}
use Rattle.std.specs.Prelude.{bytes_eq, nat_lt, not, IsTrue, if◌then◌else◌, ◌==◌}
use Rattle.std.specs.List.{list_any, list_all}
use Rattle.std.proofs.lemmas.Bool.Decides.{nat_tests}
use Rattle.std.proofs.lemmas.List.{map-append}
use Rattle.std.proofs.lemmas.List.Folds.{list_all-map}
use Rattle.std.proofs.lemmas.Bool.{and_parts}
use Rattle.enc_base.specs.Numbers.{spelled, is_empty}
use Rattle.enc_meta.specs.Heaps.{Counted, text_entry, blob_entry, user_entry, nil_guid}
use Rattle.enc_meta.specs.Joined.{joined_guid}
use Rattle.enc_meta.specs.Built.{Built, is_among, text_bytes, user_bytes, blob_bytes, mark_of, is_guid_kept, guid_number_in, entries_before, guid_bytes, heaps_built}
use Rattle.enc_meta.specs.BuiltLaws.{IsGood, ArePast, heaps_joined, TextsAreRead, UsersAreRead, BlobsAreRead, GuidsAreRead, TextsCount, OffsetsStay, NumbersStay, OffsetsTell, UserOffsetsTell, BlobOffsetsTell, GuidNumbersTell}
use Rattle.enc_meta.proofs.Joining.{guid_behind}
use Rattle.enc_meta.proofs.Standing.{same_bytes, holds_of}
use Rattle.enc_meta.proofs.Reading.{spelled_some, text_reads, blob_reads, user_reads, value_reads}
use Rattle.enc_meta.proofs.Sixteens.{guid_stands}
use Rattle.enc_meta.proofs.Counting.{texts_count}
use Rattle.enc_meta.proofs.Staying.{offset_stays, offset_tells, number_stays, number_tells}

text_some : (v : List ℕ) → 0 < length (text_bytes v)
text_some v = omega (arith, length-append v (0 ∷ []))

blob_some : (v : List ℕ) → 0 < length (blob_bytes v)
blob_some v = omega (arith, length-append (spelled (length v)) v, spelled_some (length v))

user_some : (v : List ℕ) → 0 < length (user_bytes v)
user_some v = blob_some (v ++ mark_of v ∷ [])

not_true : (b : Bool) → not b ≡ true → b ≡ false
not_true true e = absurd (cc)
not_true false e = refl

text_of : (b : Built) (v : List ℕ) → IsGood b → is_among b.texts v ≡ true → (heap rest : List ℕ) (n : ℕ) → drop n heap ≡ text_bytes v ++ rest → text_entry heap n ≡ Some v
text_of b v good there heap rest n whole =
    let is = and_parts (not (is_empty v)) (not (list_any (λ c. c == 0) v)) (holds_of _ b.texts v good.texts there) in
    text_reads heap v rest n (not_true _ is.1) whole

pub texts_are_read : TextsAreRead
unfolding heaps_built
texts_are_read before b v good past kept =
    rw (map-append (λ (c : Counted). c.strings) before (heaps_built b ∷ [])) (value_reads text_entry text_bytes (map (λ (c : Counted). c.strings) before) b.starts.strings b.texts v past.strings (text_some v) (text_of b v good) kept)

user_of : (b : Built) (v : List ℕ) → IsGood b → is_among b.users v ≡ true → (heap rest : List ℕ) (n : ℕ) → drop n heap ≡ user_bytes v ++ rest → user_entry heap n ≡ Some v
user_of b v good there heap rest n whole =
    let is = and_parts (length v % 2 == 0) (nat_lt (length v + 1) (2 ^ 29)) (holds_of _ b.users v good.users there) in
    user_reads heap v rest n (grind (arith, nat_tests, is.0)) (grind (arith, nat_tests, is.1)) whole

pub users_are_read : UsersAreRead
unfolding heaps_built
users_are_read before b v good past kept =
    rw (map-append (λ (c : Counted). c.users) before (heaps_built b ∷ [])) (value_reads user_entry user_bytes (map (λ (c : Counted). c.users) before) b.starts.users b.users v past.users (user_some v) (user_of b v good) kept)

blob_of : (b : Built) (v : List ℕ) → IsGood b → is_among b.blobs v ≡ true → (heap rest : List ℕ) (n : ℕ) → drop n heap ≡ blob_bytes v ++ rest → blob_entry heap n ≡ Some v
blob_of b v good there heap rest n whole =
    let is : nat_lt (length v) (2 ^ 29) ≡ true = holds_of _ b.blobs v good.blobs there in
    blob_reads heap v rest n (grind (arith, nat_tests, is)) whole

pub blobs_are_read : BlobsAreRead
unfolding heaps_built
blobs_are_read before b v good past kept =
    rw (map-append (λ (c : Counted). c.blobs) before (heaps_built b ∷ [])) (value_reads blob_entry blob_bytes (map (λ (c : Counted). c.blobs) before) b.starts.blobs b.blobs v past.blobs (blob_some v) (blob_of b v good) kept)

guid_of : (before : List Counted) (b : Built) (g : List ℕ) (nil : Bool) → IsGood b → ArePast before b.starts → bytes_eq g nil_guid ≡ nil → (nil || is_among b.guids g) ≡ true → joined_guid (heaps_joined before b) (if nil then 0 else b.starts.guids + 1 + entries_before b.guids g) ≡ Some g
unfolding heaps_built nil_guid
guid_of before b g true good past is there = let same : g ≡ nil_guid = same_bytes g nil_guid is in rw same refl
guid_of before b g false good past is there =
    let start = b.starts.guids in
    let s = guid_stands start b.guids g good.guids there in
    let k : start + 1 + entries_before b.guids g ≡ suc (start + entries_before b.guids g) = omega arith in
    let few : IsTrue (list_all (λ (x : List ℕ). nat_lt (length x) (16 * start + 16)) (map (λ (c : Counted). c.guids) before)) = rw (list_all-map (λ (x : List ℕ). nat_lt (length x) (16 * start + 16)) (λ (c : Counted). c.guids) before) past.guids in
    rw (k, map-append (λ (c : Counted). c.guids) before (heaps_built b ∷ []), guid_behind start (map (λ (c : Counted). c.guids) before) (guid_bytes start b.guids) (start + entries_before b.guids g) few (omega arith) s.0) s.1

pub guids_are_read : GuidsAreRead
unfolding guid_number_in is_guid_kept
guids_are_read before b g good past kept = guid_of before b g (bytes_eq g nil_guid) good past refl kept

pub all_texts_count : TextsCount
unfolding heaps_built
all_texts_count b good = texts_count b.texts good.texts

pub offsets_stay : OffsetsStay
offsets_stay encode start values v w kept = offset_stays encode start values v w kept

pub numbers_stay : NumbersStay
numbers_stay b g h kept = number_stays b.starts.guids b.guids g h kept

pub text_offsets_tell : OffsetsTell
text_offsets_tell b v w good here there same = offset_tells text_bytes text_some b.starts.strings b.texts v w here there same

pub user_offsets_tell : UserOffsetsTell
user_offsets_tell b v w good here there same = offset_tells user_bytes user_some b.starts.users b.users v w here there same

pub blob_offsets_tell : BlobOffsetsTell
blob_offsets_tell b v w good here there same = offset_tells blob_bytes blob_some b.starts.blobs b.blobs v w here there same

pub guid_numbers_tell : GuidNumbersTell
guid_numbers_tell b g h good here there same = number_tells b.starts.guids b.guids g h here there same
