-- What is written as a value reads back as it.
use Rattle.std.proofs.Common.{◌≡◌, ℕ, suc, ◌+◌, ◌-◌, ◌%◌, ◌^◌, ◌<◌, Bool, true, false, cond, ◌||◌, List, [], ◌∷◌, ◌++◌, length, drop, Option, Some, refl, ap, rules, arith, length-append, length-drop, append_assoc}
use Rattle.std.specs.Prelude.{nat_le, option_map, flat_map, ◌==◌}
use Rattle.std.specs.List.{list_any}
use Rattle.std.proofs.lemmas.Bool.Decides.{nat_tests}
use Rattle.std.proofs.lemmas.List.{drop-drop, drop_at, take_at, length_push}
use Rattle.enc_base.specs.Numbers.{spelled, compressed, WrittenIsRead}
use Rattle.enc_meta.specs.Root.{before_zero}
use Rattle.enc_meta.specs.Heaps.{text_entry, blob_entry, units_in, user_entry}
use Rattle.enc_meta.specs.Joined.{joined_entry, joined_length}
use Rattle.enc_meta.specs.Built.{is_among, is_kept, text_bytes, blob_bytes, user_bytes, mark_of, place_among, offset_in, heap_bytes}
use Rattle.enc_meta.proofs.Joining.{entry_behind, joined_at}
use Rattle.enc_meta.proofs.Standing.{stands}

-- a spelled length is read
pub written_is_read : WrittenIsRead
written_is_read = search rules

pub spelled_some : (n : ℕ) → 0 < length (spelled n)
spelled_some n = grind (arith)

-- a text without a zero reads up to the one behind it
up_to_zero : (t rest : List ℕ) → list_any (λ c. c == 0) t ≡ false → before_zero ((t ++ 0 ∷ []) ++ rest) ≡ Some t
up_to_zero [] rest none = refl
up_to_zero (c ∷ t) rest none = by (c == 0) none (up_to_zero t rest)
  where
    by : (b : Bool) → (b || list_any (λ x. x == 0) t) ≡ false → (list_any (λ x. x == 0) t ≡ false → before_zero ((t ++ 0 ∷ []) ++ rest) ≡ Some t) → cond b (Some []) (option_map (λ s. c ∷ s) (before_zero ((t ++ 0 ∷ []) ++ rest))) ≡ Some (c ∷ t)
    by true h more = absurd (cc)
    by false h more = rw (more h) refl

pub text_reads : (heap v rest : List ℕ) (n : ℕ) → list_any (λ c. c == 0) v ≡ false → drop n heap ≡ text_bytes v ++ rest → text_entry heap n ≡ Some v
unfolding text_entry
text_reads heap v rest n none whole = rw whole (up_to_zero v rest none)

-- bytes behind their length read
pub blob_reads : (heap v rest : List ℕ) (n : ℕ) → length v < 2 ^ 29 → drop n heap ≡ blob_bytes v ++ rest → blob_entry heap n ≡ Some v
unfolding blob_entry
blob_reads heap v rest n few whole =
    let s = spelled (length v) in
    let len : length heap - n ≡ length s + length v + length rest = omega (arith, length-drop n heap, ap length whole, length-append (s ++ v) rest, length-append s v) in
    let some : 0 < length s = spelled_some (length v) in
    let starts : nat_le n (length heap) ≡ true = grind (arith, nat_tests) in
    let whole_in : nat_le (n + length s + length v) (length heap) ≡ true = grind (arith, nat_tests) in
    let head : compressed (drop n heap) ≡ Some (length v, length s) = rw (whole, append_assoc s v rest) (written_is_read (length v) (v ++ rest) few) in
    let behind : drop (n + length s) heap ≡ v ++ rest = rw (← drop-drop (length s) n heap, whole, append_assoc s v rest, drop_at s (v ++ rest) (length s) refl) refl in
    rw (starts, head, whole_in, behind, take_at v rest (length v) refl) refl

last_off : (v : List ℕ) (m : ℕ) → length v % 2 ≡ 0 → units_in (v ++ m ∷ []) ≡ Some v
unfolding units_in
last_off [] m even = refl
last_off (u ∷ v) m even =
    let len = length_push v m in
    let e : length (v ++ m ∷ []) % 2 == 0 ≡ true = grind (arith, nat_tests, len, even) in
    let t = take_at (u ∷ v) (m ∷ []) (length (v ++ m ∷ [])) (omega (arith, len)) in
    rw (e, t) refl

pub user_reads : (heap v rest : List ℕ) (n : ℕ) → length v % 2 ≡ 0 → length v + 1 < 2 ^ 29 → drop n heap ≡ user_bytes v ++ rest → user_entry heap n ≡ Some v
unfolding user_entry
user_reads heap v rest n even few whole =
    rw (blob_reads heap (v ++ mark_of v ∷ []) rest n (rw (length_push v (mark_of v)) few) whole) (last_off v (mark_of v) even)

-- a value that takes no place of its own is read at its offset
pub value_reads : (entry : List ℕ → ℕ → Option (List ℕ)) (encode : List ℕ → List ℕ) (before : List (List ℕ)) (start : ℕ) (values : List (List ℕ)) (v : List ℕ) → joined_length before ≡ start → 0 < length (encode v) → (is_among values v ≡ true → (heap rest : List ℕ) (n : ℕ) → drop n heap ≡ encode v ++ rest → entry heap n ≡ Some v) → is_kept values v ≡ true → joined_entry entry (before ++ heap_bytes encode values ∷ []) (offset_in encode start values v) ≡ Some v
unfolding joined_entry offset_in is_kept heap_bytes
value_reads entry encode before start values [] past some reads kept = refl
value_reads entry encode before start values (c ∷ v) past some reads kept =
    let s = stands encode (start + 1) values (c ∷ v) kept in
    let len : length (flat_map encode values) - s.far ≡ length (encode (c ∷ v)) + length s.rest = omega (arith, length-drop s.far (flat_map encode values), ap length s.whole, length-append (encode (c ∷ v)) s.rest) in
    let place : place_among encode (start + 1) values (c ∷ v) ≡ joined_length before + suc s.far = omega (arith, s.place, past) in
    let behind = entry_behind entry before (0 ∷ flat_map encode values) (suc s.far) (omega (arith, len, some)) in
    rw (place, joined_at entry (before ++ (0 ∷ flat_map encode values) ∷ []) (joined_length before + suc s.far) (omega arith), behind) (reads kept (0 ∷ flat_map encode values) s.rest (suc s.far) s.whole)
