-- Names that end in numbers: which of them are equal, and that none of many are.
use Rattle.std.proofs.Common.{◌≡◌, ℕ, zero, suc, ◌+◌, ◌<◌, ◌^◌, ◌⊎◌, inl, inr, Bool, false, List, [], ◌∷◌, ◌++◌, length, map, Some, refl, sym, ap, ◌∙◌, arith, subst, append_assoc, codes, decimal}
use Rattle.std.specs.Prelude.{slice_get, ◌==◌, ◌||◌}
use Rattle.std.specs.List.{list_any, range_with_len}
use Rattle.std.specs.Str.Parse.{AllDigits}
use Rattle.std.proofs.lemmas.Bool.Decides.{nat_tests}
use Rattle.std.proofs.lemmas.Fmt.{decimal_is_IsNumeral, decimal_injective}
use Rattle.std.proofs.lemmas.List.Folds.{list_any-append}
use Rattle.std.proofs.lemmas.Str.Parse.{tells_digits}
use Rattle.enc_rows.specs.Sums.{below}
use Rattle.enc_generator.specs.Generated.{name_added}

-- no two places have the same item
abbrev pub Apart : List (List ℕ) → Type 0
Apart xs = (i j : ℕ) (x : List ℕ) → slice_get xs i ≡ Some x → slice_get xs j ≡ Some x → i ≡ j

-- what each item has
abbrev pub Each : {A : Type 0} → (A → Type 0) → List A → Type 0
Each {A} P xs = (i : ℕ) (x : A) → slice_get xs i ≡ Some x → P x

pub each_none : {A : Type 0} (P : A → Type 0) → Each P []
each_none P i x h = absurd cc

pub each_more : {A : Type 0} (P : A → Type 0) (y : A) (ys : List A) → P y → Each P ys → Each P (y ∷ ys)
each_more {A} P y ys own rest zero x h = let e : y ≡ x = cc in subst P e own
each_more P y ys own rest (suc i) x h = rest i x h

-- an item of two lists is one of the first or of the second
abbrev pub InEither : {A : Type 0} → List A → List A → ℕ → A → Type 0
InEither xs ys i x = (slice_get xs i ≡ Some x) ⊎ ((j : ℕ) × (i ≡ length xs + j) × (slice_get ys j ≡ Some x))

further : {A : Type 0} (y : A) (xs ys : List A) (i : ℕ) (x : A) → InEither xs ys i x → InEither (y ∷ xs) ys (suc i) x
further y xs ys i x (inl h) = inl h
further y xs ys i x (inr h) = inr (h.0, omega (arith, h.1), h.2)

pub in_either : {A : Type 0} (xs ys : List A) (i : ℕ) (x : A) → slice_get (xs ++ ys) i ≡ Some x → InEither xs ys i x
in_either [] ys i x h = inr (i, omega arith, h)
in_either (y ∷ xs) ys zero x h = inl h
in_either (y ∷ xs) ys (suc i) x h = further y xs ys i x (in_either xs ys i x h)

pub each_both : {A : Type 0} (P : A → Type 0) (xs ys : List A) → Each P xs → Each P ys → Each P (xs ++ ys)
each_both P xs ys first second i x h = elim (in_either xs ys i x h) [
  | inl a ↦ first i x a
  | inr b ↦ second b.0 x b.2
]

pub apart_none : Apart []
apart_none i j x h g = absurd cc

pub apart_one : (y : List ℕ) → Apart (y ∷ [])
apart_one y zero zero x h g = refl
apart_one y zero (suc j) x h g = absurd cc
apart_one y (suc i) j x h g = absurd cc

-- two lists of which no item is in both
pub apart_both : (xs ys : List (List ℕ)) → Apart xs → Apart ys → ((i j : ℕ) (x : List ℕ) → slice_get xs i ≡ Some x → slice_get ys j ≡ Some x → ⊥) → Apart (xs ++ ys)
apart_both xs ys first second other i j x h g = elim (in_either xs ys i x h) [
  | inl a ↦ elim (in_either xs ys j x g) [
    | inl b ↦ first i j x a b
    | inr b ↦ absurd (other i b.0 x a b.2)
  ]
  | inr a ↦ elim (in_either xs ys j x g) [
    | inl b ↦ absurd (other j a.0 x b a.2)
    | inr b ↦ let e = second a.0 b.0 x a.2 b.2 in omega (arith, e, a.1, b.1)
  ]
]

digits : (n : ℕ) → n < 2 ^ 64 → AllDigits 10 (decimal n)
digits n few = (decimal_is_IsNumeral n few).0.1

-- where the first byte that is no digit stands is told by the bytes
same_front : (xs ys a b : List ℕ) → AllDigits 10 xs → AllDigits 10 ys → xs ++ 95 ∷ a ≡ ys ++ 95 ∷ b → (xs ≡ ys) × (a ≡ b)
same_front [] [] a b p q h = (refl, cc)
same_front [] (y ∷ ys) a b p q h = let e : 95 ≡ y = cc in let r = (tells_digits.parts y ys q).0 in absurd (omega (arith, e, r.0, r.1))
same_front (x ∷ xs) [] a b p q h = let e : x ≡ 95 = cc in let r = (tells_digits.parts x xs p).0 in absurd (omega (arith, e, r.0, r.1))
same_front (x ∷ xs) (y ∷ ys) a b p q h =
    let e : x ≡ y = cc in
    let rest : xs ++ 95 ∷ a ≡ ys ++ 95 ∷ b = cc in
    let w = same_front xs ys a b (tells_digits.parts x xs p).1 (tells_digits.parts y ys q).1 rest in
    (rw (e, w.0) refl, w.1)

-- the bytes of a name
spelled : (l t : ℕ) → name_added l t ≡ 65 ∷ (decimal l ++ 95 ∷ decimal t)
spelled l t = ap (λ (xs : List ℕ). 65 ∷ xs) (append_assoc (decimal l) (95 ∷ []) (decimal t))

same_rest : (x : ℕ) (xs ys : List ℕ) → x ∷ xs ≡ x ∷ ys → xs ≡ ys
same_rest x xs ys h = cc

same_first : (x y : ℕ) (xs ys : List ℕ) → x ∷ xs ≡ y ∷ ys → x ≡ y
same_first x y xs ys h = cc

-- the numbers in a name
pub same_added : (l m t u : ℕ) → l < 2 ^ 64 → m < 2 ^ 64 → t < 2 ^ 64 → u < 2 ^ 64 → name_added l t ≡ name_added m u → (l ≡ m) × (t ≡ u)
same_added l m t u p q r s h =
    let rest = same_rest 65 _ _ (sym (spelled l t) ∙ h ∙ spelled m u) in
    let w = same_front (decimal l) (decimal m) (decimal t) (decimal u) (digits l p) (digits m q) rest in
    (decimal_injective l m p q w.0, decimal_injective t u r s w.1)

-- the name of a method of the base
abbrev pub name_of_base : ℕ → List ℕ
name_of_base k = codes "M" ++ decimal k

pub same_base : (j k : ℕ) → j < 2 ^ 64 → k < 2 ^ 64 → name_of_base j ≡ name_of_base k → j ≡ k
same_base j k p q h = decimal_injective j k p q (same_rest 77 (decimal j) (decimal k) h)

pub base_or_added : (k l t : ℕ) → name_of_base k ≡ name_added l t → ⊥
base_or_added k l t h = let e = same_first 77 65 (decimal k) (decimal l ++ 95 ∷ decimal t) (h ∙ spelled l t) in absurd (omega (arith, e))

-- no name has a zero
digits_whole : (xs : List ℕ) → AllDigits 10 xs → list_any (λ b. b == 0) xs ≡ false
digits_whole [] p = refl
digits_whole (x ∷ xs) p =
    let r = tells_digits.parts x xs p in
    let own : (x == 0) ≡ false = grind (arith, nat_tests, r.0.0) in
    rw (own, digits_whole xs r.1) refl

pub base_whole : (k : ℕ) → k < 2 ^ 64 → list_any (λ b. b == 0) (name_of_base k) ≡ false
base_whole k few = digits_whole (decimal k) (digits k few)

neither : (a b : Bool) → a ≡ false → b ≡ false → (a || b) ≡ false
neither a b p q = rw (p, q) refl

pub added_whole : (l t : ℕ) → l < 2 ^ 64 → t < 2 ^ 64 → list_any (λ b. b == 0) (name_added l t) ≡ false
added_whole l t p q = ap (list_any (λ b. b == 0)) (spelled l t) ∙ list_any-append (λ b. b == 0) (decimal l) (95 ∷ decimal t) ∙ neither _ _ (digits_whole (decimal l) (digits l p)) (digits_whole (decimal t) (digits t q))

-- the names of the base are apart
numbered : (a n i : ℕ) (x : List ℕ) → slice_get (map name_of_base (range_with_len a n)) i ≡ Some x → (x ≡ name_of_base (a + i)) × (i < n)
numbered a zero i x h = absurd cc
numbered a (suc n) zero x h = let e : a + 0 ≡ a = omega arith in let is : name_of_base a ≡ x = cc in (rw e (sym is), omega arith)
numbered a (suc n) (suc i) x h = let w = numbered (a + 1) n i x h in let e : a + 1 + i ≡ a + suc i = omega arith in (rw e at w.0, omega (arith, w.1))

pub base_apart : (n : ℕ) → n < 2 ^ 63 → Apart (map name_of_base (below n))
unfolding below
base_apart n few i j x h g =
    let a = numbered 0 n i x h in
    let b = numbered 0 n j x g in
    let e = same_base (0 + i) (0 + j) (omega (arith, a.1, few)) (omega (arith, b.1, few)) (sym a.0 ∙ b.0) in
    omega (arith, e)

pub base_named : (n : ℕ) → Each (λ name. (k : ℕ) × (k < n) × (name ≡ name_of_base k)) (map name_of_base (below n))
unfolding below
base_named n i x h = let w = numbered 0 n i x h in (0 + i, omega (arith, w.1), w.0)
