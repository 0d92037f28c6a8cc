-- Heaps that get one value more: what was kept stays, the value is kept, and so many bytes are added.
use Rattle.std.proofs.Common.{◌≡◌, ℕ, ◌+◌, ◌*◌, ◌≤◌, Bool, true, false, nat_eq, ◌||◌, ◌&&◌, not, List, [], ◌∷◌, ◌++◌, length, refl, sym, ◌∙◌, arith}
use Rattle.std.specs.Prelude.{◌^◌, bytes_eq, nat_lt, if◌then◌else◌, Err}
use Rattle.std.proofs.lemmas.Bool.Decides.{nat_tests}
use Rattle.std.proofs.lemmas.List.{length-append}
use Rattle.std.proofs.lemmas.List.Folds.{list_any-append}
use Rattle.std.proofs.lemmas.List.Sums.{sum_by-append}
use Rattle.enc_base.specs.Numbers.{is_empty, spelled}
use Rattle.enc_base.specs.declared.refusal.StreamName.{StreamName}
use Rattle.enc_meta.specs.Heaps.{nil_guid}
use Rattle.enc_meta.specs.Built.{Built, is_kept, is_among, is_guid_kept, with_value, with_entry, with_blob, with_guid, passes, entry_passes, blob_passes, guid_passes, place_among, offset_in, joined_end, blob_bytes, blob_offset, entries_before, guid_number_in, guid_number}
use Rattle.enc_meta.specs.BuiltSeen.{RefusesWhere}
use Rattle.enc_meta.specs.declared.builder.BuildFault.{BuildFault}
use Rattle.enc_meta.specs.declared.builder.BuildFault.TheVariants.{Memory, TooLarge}
use Rattle.enc_meta.proofs.Entries.{with_kept_entry}
use Rattle.enc_meta.proofs.Places.{with_kept}
use Rattle.enc_meta.proofs.Staying.{offset_stays, number_stays}
use Rattle.enc_seqpoints.proofs.PointsSized.{spelled_few}
use Rattle.enc_ppdb.specs.Holding.{heaps_size, Grown, passes_with}

pub eq_self : (v : List ℕ) → bytes_eq v v ≡ true
eq_self [] = refl
eq_self (x ∷ v) = let e : nat_eq x x ≡ true = grind (arith, nat_tests) in rw (e, eq_self v) refl

or_more : (a b c : Bool) → (a || b) ≡ true → (a || (b || c)) ≡ true
or_more true b c h = refl
or_more false true c h = refl
or_more false false c h = absurd cc

or_last : (a b : Bool) → (a || (b || true)) ≡ true
or_last true b = refl
or_last false true = refl
or_last false false = refl

last_or : (b : Bool) → b ≡ true → (b || false) ≡ true
last_or true h = refl
last_or false h = absurd cc

among_more : (values : List (List ℕ)) (v w : List ℕ) → is_among (values ++ w ∷ []) v ≡ (is_among values v || (bytes_eq w v || false))
among_more values v w = list_any-append (λ x. bytes_eq x v) values (w ∷ [])

kept_by : (values : List (List ℕ)) (v w : List ℕ) (b : Bool) → is_kept values v ≡ true → is_kept (if b then values else values ++ w ∷ []) v ≡ true
unfolding is_kept
kept_by values v w true h = h
kept_by values v w false h = rw (among_more values v w) (or_more (is_empty v) (is_among values v) (bytes_eq w v || false) h)

kept_still : (values : List (List ℕ)) (v w : List ℕ) → is_kept values v ≡ true → is_kept (with_value values w) v ≡ true
unfolding with_value
kept_still values v w h = kept_by values v w (is_kept values w) h

kept_last : (values : List (List ℕ)) (v : List ℕ) (b : Bool) → is_kept values v ≡ b → is_kept (if b then values else values ++ v ∷ []) v ≡ true
unfolding is_kept
kept_last values v true h = h
kept_last values v false h = rw (among_more values v v, eq_self v) (or_last (is_empty v) (is_among values v))

kept_itself : (values : List (List ℕ)) (v : List ℕ) → is_kept (with_value values v) v ≡ true
unfolding with_value
kept_itself values v = kept_last values v (is_kept values v) refl

place_last : (encode : List ℕ → List ℕ) (at : ℕ) (values : List (List ℕ)) (v : List ℕ) → is_among values v ≡ false → place_among encode at (values ++ v ∷ []) v ≡ place_among encode at values v
unfolding place_among
place_last encode at [] v none = rw (eq_self v) refl
place_last encode at (x ∷ rest) v none = by (bytes_eq x v) none (place_last encode (at + length (encode x)) rest v)
  where
    by : (b : Bool) → (b || is_among rest v) ≡ false → (is_among rest v ≡ false → place_among encode (at + length (encode x)) (rest ++ v ∷ []) v ≡ place_among encode (at + length (encode x)) rest v) → (if b then at else place_among encode (at + length (encode x)) (rest ++ v ∷ []) v) ≡ (if b then at else place_among encode (at + length (encode x)) rest v)
    by true h more = refl
    by false h more = more h

offset_by : (encode : List ℕ → List ℕ) (start : ℕ) (values : List (List ℕ)) (c : ℕ) (v : List ℕ) (b : Bool) → is_among values (c ∷ v) ≡ b
    → place_among encode (start + 1) (if b then values else values ++ (c ∷ v) ∷ []) (c ∷ v) ≡ place_among encode (start + 1) values (c ∷ v)
offset_by encode start values c v true h = refl
offset_by encode start values c v false h = place_last encode (start + 1) values (c ∷ v) h

offset_itself : (encode : List ℕ → List ℕ) (start : ℕ) (values : List (List ℕ)) (v : List ℕ) → offset_in encode start (with_value values v) v ≡ offset_in encode start values v
unfolding offset_in with_value is_kept
offset_itself encode start values [] = refl
offset_itself encode start values (c ∷ v) = offset_by encode start values c v (is_among values (c ∷ v)) refl

number_by : (guids : List (List ℕ)) (g w : List ℕ) (b : Bool) → is_guid_kept guids g ≡ true → is_guid_kept (if b then guids else guids ++ w ∷ []) g ≡ true
unfolding is_guid_kept
number_by guids g w true h = h
number_by guids g w false h = rw (among_more guids g w) (or_more (bytes_eq g nil_guid) (is_among guids g) (bytes_eq w g || false) h)

guid_still : (guids : List (List ℕ)) (g w : List ℕ) → is_guid_kept guids g ≡ true → is_guid_kept (with_entry guids w) g ≡ true
unfolding with_entry
guid_still guids g w h = number_by guids g w (is_guid_kept guids w) h

guid_last : (guids : List (List ℕ)) (g : List ℕ) (b : Bool) → is_guid_kept guids g ≡ b → is_guid_kept (if b then guids else guids ++ g ∷ []) g ≡ true
unfolding is_guid_kept
guid_last guids g true h = h
guid_last guids g false h = rw (among_more guids g g, eq_self g) (or_last (bytes_eq g nil_guid) (is_among guids g))

guid_itself : (guids : List (List ℕ)) (g : List ℕ) → is_guid_kept (with_entry guids g) g ≡ true
unfolding with_entry
guid_itself guids g = guid_last guids g (is_guid_kept guids g) refl

before_last : (guids : List (List ℕ)) (g : List ℕ) → is_among guids g ≡ false → entries_before (guids ++ g ∷ []) g ≡ entries_before guids g
before_last [] g none = rw (eq_self g) refl
before_last (x ∷ rest) g none = by (bytes_eq x g) none (before_last rest g)
  where
    by : (b : Bool) → (b || is_among rest g) ≡ false → (is_among rest g ≡ false → entries_before (rest ++ g ∷ []) g ≡ entries_before rest g) → (if b then 0 else 1 + entries_before (rest ++ g ∷ []) g) ≡ (if b then 0 else 1 + entries_before rest g)
    by true h more = refl
    by false h more = rw (more h) refl

number_last : (start : ℕ) (guids : List (List ℕ)) (g : List ℕ) (nil among : Bool) → is_among guids g ≡ among
    → (if nil then 0 else start + 1 + entries_before (if nil || among then guids else guids ++ g ∷ []) g) ≡ (if nil then 0 else start + 1 + entries_before guids g)
number_last start guids g true among h = refl
number_last start guids g false true h = refl
number_last start guids g false false h = rw (before_last guids g h) refl

number_itself : (start : ℕ) (guids : List (List ℕ)) (g : List ℕ) → guid_number_in start (with_entry guids g) g ≡ guid_number_in start guids g
unfolding guid_number_in with_entry is_guid_kept
number_itself start guids g = number_last start guids g (bytes_eq g nil_guid) (is_among guids g) refl

end_more : (start : ℕ) (values : List (List ℕ)) (v : List ℕ) → joined_end blob_bytes start (values ++ v ∷ []) ≤ joined_end blob_bytes start values + (length v + 4)
unfolding joined_end
end_more start values v =
    rw (sum_by-append (λ (w : List ℕ). length (blob_bytes w)) values (v ∷ []), length-append (spelled (length v)) v) (omega (arith, spelled_few (length v)))

end_by : (start : ℕ) (values : List (List ℕ)) (v : List ℕ) (b : Bool) → joined_end blob_bytes start (if b then values else values ++ v ∷ []) ≤ joined_end blob_bytes start values + (length v + 4)
end_by start values v true = omega arith
end_by start values v false = end_more start values v

pub blob_size : (h : Built) (v : List ℕ) → heaps_size (with_blob h v) ≤ heaps_size h + (length v + 4)
unfolding heaps_size with_value
blob_size h v = omega (arith, end_by h.starts.blobs h.blobs v (is_kept h.blobs v))

entry_by : (guids : List (List ℕ)) (g : List ℕ) (b : Bool) → length (if b then guids else guids ++ g ∷ []) ≤ length guids + 1
entry_by guids g true = omega arith
entry_by guids g false = rw (length-append guids (g ∷ [])) (omega arith)

pub guid_size : (h : Built) (g : List ℕ) → heaps_size (with_guid h g) ≤ heaps_size h + 16
unfolding heaps_size with_entry
guid_size h g = omega (arith, entry_by h.guids g (is_guid_kept h.guids g))

-- one blob more
pub blob_grown : (h : Built) (v : List ℕ) → Grown h (with_blob h v)
blob_grown h v = record {
  starts = refl;
  texts = refl;
  users = refl;
  blobs = λ w kept. (kept_still h.blobs w v kept, offset_stays blob_bytes h.starts.blobs h.blobs w v kept);
  guids = λ g kept. (kept, refl);
}

pub blob_there : (h : Built) (v : List ℕ) → is_kept (with_blob h v).blobs v ≡ true
blob_there h v = kept_itself h.blobs v

pub blob_at_place : (h : Built) (v : List ℕ) → blob_offset h v ≡ blob_offset (with_blob h v) v
blob_at_place h v = sym (offset_itself blob_bytes h.starts.blobs h.blobs v)

pub blob_same : (h : Built) (v : List ℕ) → is_kept h.blobs v ≡ true → with_blob h v ≡ h
blob_same h v kept = rw (with_kept h.blobs v kept) refl

-- one GUID more
pub guid_grown : (h : Built) (g : List ℕ) → Grown h (with_guid h g)
guid_grown h g = record {
  starts = refl;
  texts = refl;
  users = refl;
  blobs = λ w kept. (kept, refl);
  guids = λ w kept. (guid_still h.guids w g kept, number_stays h.starts.guids h.guids w g kept);
}

pub guid_there : (h : Built) (g : List ℕ) → is_guid_kept (with_guid h g).guids g ≡ true
guid_there h g = guid_itself h.guids g

pub guid_at_place : (h : Built) (g : List ℕ) → guid_number h g ≡ guid_number (with_guid h g) g
guid_at_place h g = sym (number_itself h.starts.guids h.guids g)

pub guid_same : (h : Built) (g : List ℕ) → is_guid_kept h.guids g ≡ true → with_guid h g ≡ h
guid_same h g kept = rw (with_kept_entry h.guids g kept) refl

-- heaps that stay
pub not_grown : (h : Built) → Grown h h
not_grown h = record { starts = refl; texts = refl; users = refl; blobs = λ v kept. (kept, refl); guids = λ g kept. (kept, refl) }

-- heaps that grow twice
pub grown_twice : (h k l : Built) → Grown h k → Grown k l → Grown h l
grown_twice h k l a b = record {
  starts = b.starts ∙ a.starts;
  texts = b.texts ∙ a.texts;
  users = b.users ∙ a.users;
  blobs = λ v kept. ((b.blobs v (a.blobs v kept).0).0, (b.blobs v (a.blobs v kept).0).1 ∙ (a.blobs v kept).1);
  guids = λ g kept. ((b.guids g (a.guids g kept).0).0, (b.guids g (a.guids g kept).0).1 ∙ (a.guids g kept).1);
}

lt_more : (a b c : ℕ) → b ≤ c → nat_lt a b ≡ true → nat_lt a c ≡ true
lt_more a b c le is = grind (arith, nat_tests)

past_by : (kept : Bool) (a b c : ℕ) → b ≤ c → (not kept && nat_lt a b) ≡ true → (not kept && nat_lt a c) ≡ true
past_by true a b c le is = is
past_by false a b c le is = lt_more a b c le is

pub refused_where : (e : BuildFault) (x name : StreamName) (passes : Bool) → e ≡ TooLarge x → RefusesWhere (Err e) name passes → passes ≡ true
refused_where Memory x name passes is h = absurd cc
refused_where (TooLarge y) x name passes is h = h.1

-- a blob that is refused passes the limit
pub blob_refused : (h : Built) (v : List ℕ) → blob_passes h v ≡ true → passes_with h (is_kept h.blobs v) (length v + 4) ≡ true
unfolding passes passes_with heaps_size
blob_refused h v is =
    past_by (is_kept h.blobs v) (2 ^ 29) (joined_end blob_bytes h.starts.blobs (h.blobs ++ v ∷ []))
    (joined_end blob_bytes h.starts.blobs h.blobs + 16 * (h.starts.guids + length h.guids) + (length v + 4)) (omega (arith, end_more h.starts.blobs h.blobs v)) is

pub guid_refused : (h : Built) (g : List ℕ) → guid_passes h g ≡ true → passes_with h (is_guid_kept h.guids g) 16 ≡ true
unfolding entry_passes passes_with heaps_size
guid_refused h g is =
    past_by (is_guid_kept h.guids g) (2 ^ 29) (16 * (h.starts.guids + length h.guids + 1))
    (joined_end blob_bytes h.starts.blobs h.blobs + 16 * (h.starts.guids + length h.guids) + 16) (omega arith) is
