-- An entry of the last heap stands behind the heaps before it.
use Rattle.std.proofs.Common.{◌≡◌, ℕ, ◌+◌, ◌-◌, ◌*◌, ◌<◌, ◌≤◌, Bool, true, false, List, [], ◌∷◌, ◌++◌, length, Option, refl, arith}
use Rattle.std.specs.Prelude.{nat_lt, nat_le, IsTrue, ◌==◌, ◌&&◌}
use Rattle.std.specs.List.{list_all}
use Rattle.std.proofs.lemmas.Bool.Decides.{nat_tests}
use Rattle.std.proofs.lemmas.List.Sums.{sum_by-cons}
use Rattle.enc_meta.specs.Heaps.{sixteen_at}
use Rattle.enc_meta.specs.Joined.{entry_in, joined_entry, joined_length, first_guid}

pub entry_behind : (entry : List ℕ → ℕ → Option (List ℕ)) (before : List (List ℕ)) (h : List ℕ) (k : ℕ) → k < length h → entry_in entry (before ++ h ∷ []) (joined_length before + k) ≡ entry h k
unfolding entry_in
entry_behind entry [] h k within =
    let e : 0 + k ≡ k = omega arith in
    let in_heap : nat_lt k (length h) ≡ true = grind (arith, nat_tests) in
    rw (e, in_heap) refl
entry_behind entry (x ∷ rest) h k within =
    let s = sum_by-cons (λ (y : List ℕ). length y) x rest in
    let past : nat_lt (length x + joined_length rest + k) (length x) ≡ false = grind (arith, nat_tests) in
    let e : length x + joined_length rest + k - length x ≡ joined_length rest + k = omega arith in
    rw (s, past, e) (entry_behind entry rest h k within)

-- where no entry begins at 0
pub joined_at : (entry : List ℕ → ℕ → Option (List ℕ)) (heaps : List (List ℕ)) (offset : ℕ) → 0 < offset → joined_entry entry heaps offset ≡ entry_in entry heaps offset
unfolding joined_entry
joined_at entry heaps offset some =
    let e : offset == 0 ≡ false = grind (arith, nat_tests) in
    rw e refl

-- a GUID that no heap before has is that of the last
pub guid_behind : (start : ℕ) (before : List (List ℕ)) (h : List ℕ) (k : ℕ) → IsTrue (list_all (λ (x : List ℕ). nat_lt (length x) (16 * start + 16)) before) → start ≤ k → 16 * k + 16 ≤ length h → first_guid (before ++ h ∷ []) k ≡ sixteen_at h k
unfolding first_guid
guid_behind start [] h k few least within =
    let there : nat_le (16 * k + 16) (length h) ≡ true = grind (arith, nat_tests) in
    rw there refl
guid_behind start (x ∷ rest) h k few least within =
    let parts = both_true (nat_lt (length x) (16 * start + 16)) _ few in
    let past : nat_le (16 * k + 16) (length x) ≡ false = grind (arith, nat_tests, parts.0) in
    rw past (guid_behind start rest h k parts.1 least within)
  where
    both_true : (b c : Bool) → (b && c) ≡ true → (b ≡ true) × (c ≡ true)
    both_true true c e = (refl, e)
    both_true false c e = absurd (cc)
