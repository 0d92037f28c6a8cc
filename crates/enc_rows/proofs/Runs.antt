-- The runs of all owners stand one behind the other, and what they name.
use Rattle.std.proofs.Common.{◌≡◌, ℕ, zero, suc, ◌+◌, ◌-◌, ◌<◌, ◌≤◌, Bool, true, false, cond, List, [], ◌∷◌, ◌++◌, inl, inr, refl, sym, ap, ◌∙◌, arith}
use Rattle.std.specs.Prelude.{◌==◌, flat_map, count_by}
use Rattle.std.specs.List.{range_with_len}
use Rattle.std.proofs.lemmas.Grind.{flat_map-append}
use Rattle.std.proofs.lemmas.List.Concat.{flat_map-cons}
use Rattle.std.proofs.lemmas.List.Sums.{sum_by-cons, sum_by-append}
use Rattle.std.proofs.lemmas.Bool.{cases_lt}
use Rattle.std.proofs.lemmas.Bool.Decides.{nat_tests}

-- the numbers from a on, and those behind them
pub range_join : (a m n : ℕ) → range_with_len a m ++ range_with_len (a + m) n ≡ range_with_len a (m + n)
range_join a zero n = let e : a + 0 ≡ a = omega arith in let z : 0 + n ≡ n = omega arith in rw (e, z) refl
range_join a (suc m) n =
    let e : a + suc m ≡ a + 1 + m = omega arith in
    let z : suc m + n ≡ suc (m + n) = omega arith in
    rw (e, z) (ap (λ xs. a ∷ xs) (range_join (a + 1) m n))

-- pieces that begin where the one before ends are one piece, from the first start to the last end
pub telescope : (f p : ℕ → List ℕ) (b : ℕ → ℕ) (a n : ℕ) → ((k : ℕ) → a ≤ k → k < a + n → (b k ≤ b (k + 1)) × (p k ≡ flat_map f (range_with_len (b k) (b (k + 1) - b k)))) → (flat_map p (range_with_len a n) ≡ flat_map f (range_with_len (b a) (b (a + n) - b a))) × (b a ≤ b (a + n))
telescope f p b a zero h =
    let e : a + 0 ≡ a = omega arith in
    let z : b a - b a ≡ 0 = omega arith in
    rw (e, z) (refl, omega arith)
telescope f p b a (suc n) h =
    let e : a + suc n ≡ a + 1 + n = omega arith in
    let here = h a (omega arith) (omega arith) in
    let rest = telescope f p b (a + 1) n (λ k low high. h k (omega arith) (omega arith)) in
    let le : b a ≤ b (a + 1) = here.0 in
    let le2 : b (a + 1) ≤ b (a + 1 + n) = rest.1 in
    let start : b a + (b (a + 1) - b a) ≡ b (a + 1) = omega arith in
    let len : b (a + 1) - b a + (b (a + 1 + n) - b (a + 1)) ≡ b (a + 1 + n) - b a = omega arith in
    let join = range_join (b a) (b (a + 1) - b a) (b (a + 1 + n) - b (a + 1)) in
    let joined : range_with_len (b a) (b (a + 1) - b a) ++ range_with_len (b (a + 1)) (b (a + 1 + n) - b (a + 1)) ≡ range_with_len (b a) (b (a + 1 + n) - b a) = rw (start, len) at join in
    rw e (flat_map-cons p a (range_with_len (a + 1) n) ∙ ap (λ xs. xs ++ flat_map p (range_with_len (a + 1) n)) here.1 ∙ ap (λ xs. flat_map f (range_with_len (b a) (b (a + 1) - b a)) ++ xs) rest.0 ∙ sym (flat_map-append f (range_with_len (b a) (b (a + 1) - b a)) (range_with_len (b (a + 1)) (b (a + 1 + n) - b (a + 1)))) ∙ ap (λ xs. flat_map f xs) joined, omega arith)

-- a place that names itself
pub flat_map_same : (f : ℕ → List ℕ) (xs : List ℕ) → ((x : ℕ) → f x ≡ x ∷ []) → flat_map f xs ≡ xs
flat_map_same f [] h = refl
flat_map_same f (x ∷ xs) h = flat_map-cons f x xs ∙ ap (λ ys. ys ++ flat_map f xs) (h x) ∙ ap (λ ys. x ∷ ys) (flat_map_same f xs h)

count_suc : (r a n : ℕ) → count_by (λ (x : ℕ). x == r) (range_with_len a (suc n)) ≡ cond (a == r) 1 0 + count_by (λ (x : ℕ). x == r) (range_with_len (a + 1) n)
count_suc r a n = sum_by-cons (λ (x : ℕ). cond (x == r) 1 0) a (range_with_len (a + 1) n)

-- the numbers from a on have one below a not at all
pub count_before : (r a n : ℕ) → r < a → count_by (λ (x : ℕ). x == r) (range_with_len a n) ≡ 0
count_before r a zero h = refl
count_before r a (suc n) h =
    let no : (a == r) ≡ false = grind (arith, nat_tests) in
    let rest : count_by (λ (x : ℕ). x == r) (range_with_len (a + 1) n) ≡ 0 = count_before r (a + 1) n (omega arith) in
    rw (count_suc r a n, no, rest) refl

-- and each of the n numbers once
pub count_within : (r a n : ℕ) → a ≤ r → r < a + n → count_by (λ (x : ℕ). x == r) (range_with_len a n) ≡ 1
count_within r a zero low high = absurd (omega arith)
count_within r a (suc n) low high = elim (cases_lt a r) [
  | inl h ↦
      let no : (a == r) ≡ false = grind (arith, nat_tests) in
      let rest : count_by (λ (x : ℕ). x == r) (range_with_len (a + 1) n) ≡ 1 = count_within r (a + 1) n (omega arith) (omega arith) in
      rw (count_suc r a n, no, rest) refl
  | inr h ↦
      let here : (a == r) ≡ true = grind (arith, nat_tests) in
      let rest : count_by (λ (x : ℕ). x == r) (range_with_len (a + 1) n) ≡ 0 = count_before r (a + 1) n (omega arith) in
      rw (count_suc r a n, here, rest) refl
]

-- one number more
pub range_more : (a n : ℕ) → range_with_len a (n + 1) ≡ range_with_len a n ++ (a + n) ∷ []
range_more a n = sym (range_join a n 1)

nothing_behind : (xs : List ℕ) → xs ++ [] ≡ xs
nothing_behind [] = refl
nothing_behind (x ∷ xs) = ap (λ ys. x ∷ ys) (nothing_behind xs)

flat_map_one : (f : ℕ → List ℕ) (x : ℕ) → flat_map f (x ∷ []) ≡ f x
flat_map_one f x = flat_map-cons f x [] ∙ nothing_behind (f x)

-- one place more names what it names
pub count_more : (f : ℕ → List ℕ) (p : ℕ → Bool) (a n : ℕ) → count_by p (flat_map f (range_with_len a (n + 1))) ≡ count_by p (flat_map f (range_with_len a n)) + count_by p (f (a + n))
count_more f p a n =
    let one : flat_map f ((a + n) ∷ []) ≡ f (a + n) = flat_map_one f (a + n) in
    rw (range_more a n, flat_map-append f (range_with_len a n) ((a + n) ∷ []), one) (sum_by-append (λ (x : ℕ). cond (p x) 1 0) (flat_map f (range_with_len a n)) (f (a + n)))
