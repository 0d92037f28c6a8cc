-- What is held stays what numbers tell while more is held, and what is known of places.
use Rattle.std.proofs.Common.{◌≡◌, ℕ, zero, suc, ◌+◌, ◌<◌, ◌≤◌, Bool, true, false, List, [], ◌∷◌, ◌++◌}
use Rattle.std.proofs.Common.{length, Option, Some, None, refl, sym, ap, subst, ◌∙◌, ◌-◌, ◌⊎◌, cond, inl, inr, arith}
use Rattle.std.specs.Prelude.{slice_get, unwrap_or, nat_lt, nat_le, ◌&&◌}
use Rattle.std.specs.BTreeMap.{BTreeMap, get, is_at, Updates, IsEmpty}
use Rattle.std.specs.Ordering.{nat_cmp}
use Rattle.std.proofs.lemmas.Bool.Decides.{nat_tests}
use Rattle.std.proofs.lemmas.Bool.{and_parts}
use Rattle.enc_base.specs.declared.token.Token.{Token}
use Rattle.enc_plain.specs.Module.{Module, has_row}
use Rattle.enc_plain.specs.Sound.{row_count}
use Rattle.enc_compact.specs.Held.{number_in_slots, held_by, AreSlots, AreSlotsKnown}

-- the number of a row
pub slot_there : (slots : List ℕ) (row x : ℕ) → 0 < row → unwrap_or (slice_get slots (row - 1)) 0 ≡ x → x ≡ number_in_slots slots row
slot_there slots zero x some e = absurd (omega (arith, some))
slot_there slots (suc k) x some e = let s : suc k - 1 ≡ k = omega arith in sym e ∙ ap (λ i. unwrap_or (slice_get slots i) 0) s

-- what a number tells stays when more is held
pub front_get : {A : Type 0} (xs more : List A) (i : ℕ) → i < length xs → slice_get (xs ++ more) i ≡ slice_get xs i
front_get [] more i low = absurd (omega (arith, low))
front_get (x ∷ xs) more zero low = refl
front_get (x ∷ xs) more (suc i) low = front_get xs more i (omega (arith, low))

pub held_still : {A : Type 0} (held more : List A) (slot : ℕ) → slot < suc (length held) → held_by (held ++ more) slot ≡ held_by held slot
held_still held more zero low = refl
held_still held more (suc k) low = front_get held more k (omega (arith, low))

more_long : {A : Type 0} (xs more : List A) → length xs ≤ length (xs ++ more)
more_long [] more = omega arith
more_long (x ∷ xs) more = omega (arith, more_long xs more)

pub low_still : {A : Type 0} (held more : List A) (slot : ℕ) → slot < suc (length held) → slot < suc (length (held ++ more))
low_still held more slot low = omega (arith, low, more_long held more)

-- the last that is held is told by how many are
pub last_get : {A : Type 0} (xs : List A) (x : A) → slice_get (xs ++ x ∷ []) (length xs) ≡ Some x
last_get [] x = refl
last_get (y ∷ ys) x = last_get ys x

last_long : {A : Type 0} (xs : List A) (x : A) → length (xs ++ x ∷ []) ≡ suc (length xs)
last_long [] x = refl
last_long (y ∷ ys) x = ap suc (last_long ys x)

pub last_held : {A : Type 0} (held new : List A) (x : A) (slot : ℕ) → new ≡ held ++ x ∷ [] → slot ≡ length new → held_by new slot ≡ Some x
last_held held new x slot grown many =
    let e : slot ≡ suc (length held) = many ∙ ap length grown ∙ last_long held x in
    rw (e, grown) (last_get held x)

pub last_low : {A : Type 0} (new : List A) (slot : ℕ) → slot ≡ length new → slot < suc (length new)
last_low new slot many = omega (arith, many)

-- no place is known yet
pub none_known : {A : Type 0} (places : ℕ → Option A) (Says : A → ℕ → Type 0) (known : BTreeMap ℕ ℕ) → IsEmpty known → AreSlotsKnown places Says known
none_known places Says known empty place slot x found there = let e : get nat_cmp known place ≡ None = rw empty refl in absurd cc

-- one more place is
here : (k q : ℕ) → is_at (nat_cmp k) q ≡ true → k ≡ q
here k q h = grind (arith, nat_tests, h)

some_same : (a b : ℕ) → Some a ≡ Some b → a ≡ b
some_same a b e = cc

pub one_known : {A : Type 0} (places : ℕ → Option A) (Before Says : A → ℕ → Type 0) (old new : BTreeMap ℕ ℕ) (k slot : ℕ) → AreSlotsKnown places Before old
    → ((x : A) (n : ℕ) → Before x n → Says x n) → ((x : A) → places k ≡ Some x → Says x slot) → Updates nat_cmp old new k (Some slot) → AreSlotsKnown places Says new
one_known {A} places Before Says old new k slot all still one updates place n x found there =
    by (is_at (nat_cmp k) place) (get nat_cmp new place) refl (updates.0 place) found
  where
    by : (b : Bool) (o : Option ℕ) → is_at (nat_cmp k) place ≡ b → o ≡ cond b (Some slot) (get nat_cmp old place) → o ≡ Some n → Says x n
    by true o at is e =
        let same : slot ≡ n = some_same slot n (sym is ∙ e) in
        let p : k ≡ place = here k place at in
        subst (λ i. Says x i) same (one x (ap places p ∙ there))
    by false o at is e = still x n (all place n x (sym is ∙ e) there)

-- no row has a number yet, and one more has
pub none_slots : (Says : ℕ → ℕ → Type 0) → AreSlots Says [] 0
none_slots Says = record { count = refl; each = λ n slot e. absurd cc }

split_get : (old : List ℕ) (s k i : ℕ) → slice_get (old ++ s ∷ []) k ≡ Some i → (slice_get old k ≡ Some i) ⊎ ((k ≡ length old) × (s ≡ i))
split_get [] s zero i e = inr (refl, some_same s i e)
split_get [] s (suc k) i e = absurd cc
split_get (x ∷ xs) s zero i e = inl e
split_get (x ∷ xs) s (suc k) i e = elim (split_get xs s k i e) [ inl g ↦ inl g | inr h ↦ inr (ap suc h.0, h.1) ]

pub one_slot : (Before Says : ℕ → ℕ → Type 0) (old new : List ℕ) (n slot : ℕ) → AreSlots Before old n → ((k i : ℕ) → Before k i → Says k i) → Says n slot
    → new ≡ old ++ slot ∷ [] → AreSlots Says new (n + 1)
one_slot Before Says old new n slot all still one grown = record {
  count = ap length grown ∙ last_long old slot ∙ one_more (length old) n all.count;
  each = λ k i e.
      elim (split_get old slot k i (ap (λ (xs : List ℕ). slice_get xs k) (sym grown) ∙ e)) [
        | inl g ↦ still k i (all.each k i g)
        | inr h ↦ subst (λ j. Says j i) (sym (h.0 ∙ all.count)) (subst (λ j. Says n j) h.1 one)
      ];
}
  where
    one_more : (a n : ℕ) → a ≡ n → suc a ≡ n + 1
    one_more a n e = omega (arith, e)

-- the rows that a loop meets are there
pub row_met : (m : Module) (t n many : ℕ) → n < many → many ≡ row_count m t → has_row m (record { table = t; row = n + 1 }) ≡ true
unfolding has_row
row_met m t n many low e = within n (row_count m t) (omega (arith, low, e))
  where
    within : (n k : ℕ) → n < k → (nat_lt 0 (n + 1) && nat_le (n + 1) k) ≡ true
    within n k low = grind (arith, nat_tests)

-- the number of a row that is there
pub rows_of : (m : Module) (u : Token) → has_row m u ≡ true → (0 < u.row) × (u.row ≤ row_count m u.table)
unfolding has_row
rows_of m u there =
    let p = and_parts (nat_lt 0 u.row) (nat_le u.row (row_count m u.table)) there in
    (above u.row p.0, within u.row (row_count m u.table) p.1)
  where
    above : (n : ℕ) → nat_lt 0 n ≡ true → 0 < n
    above n e = grind (arith, nat_tests)

    within : (n k : ℕ) → nat_le n k ≡ true → n ≤ k
    within n k e = grind (arith, nat_tests)

pub row_slot : (slots : List ℕ) (n row : ℕ) → length slots ≡ n → 0 < row → row ≤ n → (k : ℕ) × (row ≡ k + 1) × (slice_get slots k ≡ Some (number_in_slots slots row))
row_slot slots n zero many some low = absurd (omega (arith, some))
row_slot slots n (suc k) many some low = let e : suc k ≡ k + 1 = omega arith in (k, e, there slots k (omega (arith, many, low)))
  where
    there : (xs : List ℕ) (k : ℕ) → k < length xs → slice_get xs k ≡ Some (number_in_slots xs (suc k))
    there [] k low = absurd (omega (arith, low))
    there (x ∷ xs) zero low = refl
    there (x ∷ xs) (suc k) low = there xs k (omega (arith, low))
