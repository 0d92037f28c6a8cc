-- The numbers of GUIDs.
use Rattle.std.proofs.Common.{◌≡◌, ℕ, ◌+◌, ◌*◌, ◌^◌, ◌≤◌, ◌<◌, Bool, true, false, cond, ◌||◌, List, [], ◌∷◌, ◌++◌, length, take, get_or, Some, None, refl, ◌∙◌, append_assoc, suc, arith}
use Rattle.std.specs.Prelude.{bytes_eq, position, not, nat_lt, flat_map, if◌then◌else◌, ◌==◌}
use Rattle.std.specs.List.{list_any, position_or_len}
use Rattle.std.proofs.lemmas.Bool.Decides.{nat_tests}
use Rattle.std.proofs.lemmas.List.{length_push, take_more, append-nil}
use Rattle.std.proofs.lemmas.List.Concat.{flat_map-append}
use Rattle.std.proofs.lemmas.List.Folds.{list_all-append}
use Rattle.indexmap.specs.IndexSet.{insert_key}
use Rattle.enc_meta.specs.Heaps.{nil_guid}
use Rattle.enc_meta.specs.Built.{is_among, is_guid_kept, with_entry, entries_before, guid_number_in, entry_passes}
use Rattle.enc_meta.specs.Pools.{IsListed}
use Rattle.enc_meta.proofs.Places.{bytes_eq_sym}

-- a look-up finds how many stand before
before_is : (guids : List (List ℕ)) (g : List ℕ) → position_or_len (bytes_eq g) guids ≡ entries_before guids g
before_is [] g = refl
before_is (w ∷ rest) g = rw (bytes_eq_sym g w, before_is rest g) (by (bytes_eq w g) (entries_before rest g))
  where
    by : (b : Bool) (n : ℕ) → cond (not b) (1 + n) 0 ≡ (if b then 0 else 1 + n)
    by true n = refl
    by false n = refl

among_is : (guids : List (List ℕ)) (g : List ℕ) → nat_lt (entries_before guids g) (length guids) ≡ is_among guids g
among_is [] g = refl
among_is (w ∷ rest) g = by (bytes_eq w g) (is_among rest g) (entries_before rest g) (length rest) (among_is rest g)
  where
    by : (b c : Bool) (n m : ℕ) → nat_lt n m ≡ c → nat_lt (if b then 0 else 1 + n) (suc m) ≡ (b || c)
    by true c n m h = grind (arith, nat_tests)
    by false c n m h = rw (← h) (grind (arith, nat_tests))

found_is : (guids : List (List ℕ)) (g : List ℕ) → position (bytes_eq g) guids ≡ cond (is_among guids g) (Some (entries_before guids g)) None
found_is guids g = rw (before_is guids g, among_is guids g) refl

-- the nil GUID has number 0
pub nil_kept : (start : ℕ) (guids : List (List ℕ)) (g : List ℕ) → bytes_eq g nil_guid ≡ true → (is_guid_kept guids g ≡ true) × (0 ≡ guid_number_in start guids g)
unfolding is_guid_kept guid_number_in
nil_kept start guids g nil = (rw nil refl, rw nil refl)

-- another has the number of its entry
pub kept_at : (start before : ℕ) (guids : List (List ℕ)) (g : List ℕ) → bytes_eq g nil_guid ≡ false → Some before ≡ position (bytes_eq g) guids → (is_guid_kept guids g ≡ true) × (start + 1 + before ≡ guid_number_in start guids g)
unfolding is_guid_kept guid_number_in
kept_at start before guids g other found = by (is_among guids g) (entries_before guids g) (bytes_eq g nil_guid) other (found ∙ found_is guids g)
  where
    by : (b : Bool) (n : ℕ) (nil : Bool) → nil ≡ false → Some before ≡ cond b (Some n) None → ((nil || b) ≡ true) × (start + 1 + before ≡ (if nil then 0 else start + 1 + n))
    by true n nil is e = let same : before ≡ n = cc in (rw is refl, rw (is, same) refl)
    by false n nil is e = absurd (cc)

pub not_kept : (guids : List (List ℕ)) (g : List ℕ) → bytes_eq g nil_guid ≡ false → None ≡ position (bytes_eq g) guids → is_guid_kept guids g ≡ false
unfolding is_guid_kept
not_kept guids g other found = by (is_among guids g) (entries_before guids g) (bytes_eq g nil_guid) other (found ∙ found_is guids g)
  where
    by : (b : Bool) (n : ℕ) (nil : Bool) → nil ≡ false → None ≡ cond b (Some n) None → (nil || b) ≡ false
    by true n nil is e = absurd (cc)
    by false n nil is e = rw is refl

none_before : (guids : List (List ℕ)) (g : List ℕ) → is_among guids g ≡ false → entries_before guids g ≡ length guids
none_before [] g none = refl
none_before (w ∷ rest) g none = by (bytes_eq w g) none (none_before rest g)
  where
    by : (b : Bool) → (b || is_among rest g) ≡ false → (is_among rest g ≡ false → entries_before rest g ≡ length rest) → (if b then 0 else 1 + entries_before rest g) ≡ length (w ∷ rest)
    by true h more = absurd (cc)
    by false h more = omega (arith, more h)

both_false : (b c : Bool) → (b || c) ≡ false → (b ≡ false) × (c ≡ false)
both_false true c h = absurd (cc)
both_false false c h = (refl, h)

-- a GUID that isn't there has the number behind them all
pub number_new : (start : ℕ) (guids : List (List ℕ)) (g : List ℕ) → is_guid_kept guids g ≡ false → guid_number_in start guids g ≡ start + length guids + 1
unfolding is_guid_kept guid_number_in
number_new start guids g new =
    let f = both_false (bytes_eq g nil_guid) (is_among guids g) new in
    rw (f.0, none_before guids g f.1) (omega arith)

pub passes_entry : (start : ℕ) (guids : List (List ℕ)) (g : List ℕ) → is_guid_kept guids g ≡ false → entry_passes start guids g ≡ nat_lt (2 ^ 29) (16 * (start + length guids + 1))
unfolding entry_passes
passes_entry start guids g new = rw new refl

pub kept_passes : (start : ℕ) (guids : List (List ℕ)) (g : List ℕ) → is_guid_kept guids g ≡ true → entry_passes start guids g ≡ false
unfolding entry_passes
kept_passes start guids g kept = rw kept refl

pub with_kept_entry : (guids : List (List ℕ)) (g : List ℕ) → is_guid_kept guids g ≡ true → with_entry guids g ≡ guids
unfolding with_entry
with_kept_entry guids g kept = rw kept refl

pub with_new_entry : (guids : List (List ℕ)) (g : List ℕ) → is_guid_kept guids g ≡ false → with_entry guids g ≡ guids ++ g ∷ []
unfolding with_entry
with_new_entry guids g new = rw new refl

any_sym : (guids : List (List ℕ)) (g : List ℕ) → list_any (bytes_eq g) guids ≡ is_among guids g
any_sym [] g = refl
any_sym (w ∷ rest) g = rw (bytes_eq_sym g w, any_sym rest g) refl

-- an insert puts it last
pub inserted_last : (guids : List (List ℕ)) (g : List ℕ) → is_guid_kept guids g ≡ false → insert_key bytes_eq guids g ≡ guids ++ g ∷ []
unfolding is_guid_kept
inserted_last guids g new = rw (any_sym guids g, (both_false (bytes_eq g nil_guid) (is_among guids g) new).1) refl

-- one GUID more
pub listed_more : (start : ℕ) (guids : List (List ℕ)) (g : List ℕ) → IsListed start guids → length g ≡ 16 → 16 * (start + length guids + 1) ≤ 2 ^ 29 → IsListed start (guids ++ g ∷ [])
listed_more start guids g listed sixteen within = record {
  good = rw (list_all-append (λ (x : List ℕ). length x == 16) guids (g ∷ []), listed.good, sixteen) refl;
  within = rw (length_push guids g) (omega (arith, within));
}

-- the bytes with one more
pub all_more : (bytes : List ℕ) (guids : List (List ℕ)) (i : ℕ) (d : List ℕ) → i < length guids → bytes ++ flat_map (λ (g : List ℕ). g) (take (i + 1) guids) ≡ (bytes ++ flat_map (λ (g : List ℕ). g) (take i guids)) ++ get_or guids i d
all_more bytes guids i d within =
    rw (take_more guids i d within, flat_map-append (λ (g : List ℕ). g) (take i guids) (get_or guids i d ∷ []), append-nil (get_or guids i d), append_assoc bytes) refl
