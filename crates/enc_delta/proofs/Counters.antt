-- One counter for each table, and a walk over tokens.
use Rattle.std.proofs.Common.{◌≡◌, ◌≢◌, ℕ, ◌+◌, ◌<◌, ◌≤◌, length, get_or, take, List, Bool, true, false, refl, sym, ap, ◌∙◌, arith}
use Rattle.std.proofs.Common.{inl, inr}
use Rattle.std.specs.Prelude.{◌==◌, ◌&&◌, count_by}
use Rattle.std.proofs.Math.ListN.{set}
use Rattle.std.proofs.lemmas.Bool.Decides.{eqb_tells}
use Rattle.std.proofs.lemmas.List.{get_or-set_same, get_or-set_other, length-take-le}
use Rattle.std.proofs.lemmas.List.Sums.{count_by_more_yes, count_by_more_no, count_by-le-length}

-- one counter more where the element is counted
pub counter_more : {X : Type 0} (p : ℕ → X → Bool) (xs : List X) (i : ℕ) (d : X) (counts : List ℕ) (at : ℕ) → i < length xs → length counts ≡ 256 → at < 256 → p at (get_or xs i d) ≡ true → ((t : ℕ) → t ≢ at → p t (get_or xs i d) ≡ false) → ((t : ℕ) → t < 256 → get_or counts t 0 ≡ count_by (p t) (take i xs)) → (t : ℕ) → t < 256 → get_or (set counts at (get_or counts at 0 + 1)) t 0 ≡ count_by (p t) (take (i + 1) xs)
counter_more p xs i d counts at lt len low counted others before t there = elim (eqb_tells t at) [
  | inl e ↦ rw e.1 (get_or-set_same counts at (get_or counts at 0 + 1) 0 (omega (arith, len)) ∙ ap (λ n. n + 1) (before at low) ∙ sym (count_by_more_yes (p at) xs i d lt counted))
  | inr e ↦ get_or-set_other counts at t (get_or counts at 0 + 1) 0 e.1 ∙ before t there ∙ sym (count_by_more_no (p t) xs i d lt (others t e.1))
]

-- no counter more where it isn't
pub counter_same : {X : Type 0} (p : ℕ → X → Bool) (xs : List X) (i : ℕ) (d : X) (counts : List ℕ) → i < length xs → ((t : ℕ) → p t (get_or xs i d) ≡ false) → ((t : ℕ) → t < 256 → get_or counts t 0 ≡ count_by (p t) (take i xs)) → (t : ℕ) → t < 256 → get_or counts t 0 ≡ count_by (p t) (take (i + 1) xs)
counter_same p xs i d counts lt others before t there = before t there ∙ sym (count_by_more_no (p t) xs i d lt (others t))

-- a counter has room for one more
pub counter_room : {X : Type 0} (p : X → Bool) (xs : List X) (i n : ℕ) → i ≤ length xs → n ≡ count_by p (take i xs) → n ≤ i
counter_room p xs i n le e = omega (arith, count_by-le-length p (take i xs), length-take-le i xs le)

pub same_table : (a : ℕ) → (a == a) ≡ true
same_table a = elim (eqb_tells a a) [ inl e ↦ e.0 | inr e ↦ absurd (e.1 refl) ]

pub other_table : (a t : ℕ) → t ≢ a → (a == t) ≡ false
other_table a t ne = elim (eqb_tells a t) [ inl e ↦ absurd (ne (sym e.1)) | inr e ↦ e.0 ]

-- the test of a table and one more
pub test_yes : (a : ℕ) (b : Bool) → b ≡ true → ((a == a) && b) ≡ true
test_yes a b h = rw (same_table a, h) refl

pub test_other : (a t : ℕ) (b : Bool) → t ≢ a → ((a == t) && b) ≡ false
test_other a t b ne = rw (other_table a t ne) refl

by_false : (a : Bool) → (a && false) ≡ false
by_false true = refl
by_false false = refl

pub test_not : (a t : ℕ) (b : Bool) → b ≡ false → ((a == t) && b) ≡ false
test_not a t b h = rw h (by_false (a == t))
