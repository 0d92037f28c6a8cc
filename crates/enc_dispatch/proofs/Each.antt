-- Parts that are as their places say, one by one.
use Rattle.std.proofs.Common.{◌≡◌, ℕ, zero, suc, List, [], ◌∷◌, ◌++◌, length, Some, slice_get, refl, sym, subst, ◌∙◌, inl, inr, ◌⊎◌, arith}
use Rattle.enc_dispatch.specs.Parts.{EachPart}

pub each_none : {A : Type 0} (is : ℕ → A → Type 0) → EachPart is []
each_none is n p e = absurd cc

-- a part of a list, or the one behind it
pub at_end : {A : Type 0} (xs : List A) (x p : A) (n : ℕ) → slice_get (xs ++ x ∷ []) n ≡ Some p → (slice_get xs n ≡ Some p) ⊎ ((n ≡ length xs) × (x ≡ p))
at_end [] x p zero e = inr (refl, cc)
at_end [] x p (suc n) e = absurd cc
at_end (y ∷ xs) x p zero e = inl e
at_end (y ∷ xs) x p (suc n) e = elim (at_end xs x p n e) [
  | inl there ↦ inl there
  | inr last ↦ inr (omega (arith, last.0), last.1)
]

pub each_more : {A : Type 0} (is : ℕ → A → Type 0) (xs : List A) (x : A) (n : ℕ) → EachPart is xs → length xs ≡ n → is n x → EachPart is (xs ++ x ∷ [])
each_more is xs x n each size new k p e = elim (at_end xs x p k e) [
  | inl there ↦ each k p there
  | inr last ↦ subst (is k) last.1 (subst (λ j. is j x) (sym size ∙ sym last.0) new)
]

-- a part at the front
each_front : {A : Type 0} (is : ℕ → A → Type 0) (x : A) (xs : List A) → is 0 x → EachPart (λ k. is (suc k)) xs → EachPart is (x ∷ xs)
each_front is x xs here later zero p e = let same : x ≡ p = cc in subst (is 0) same here
each_front is x xs here later (suc n) p e = later n p e

-- what a rule gives for the first eight numbers
pub each_of_eight : {A : Type 0} (f : ℕ → A) (a b c d e g h i : A) → a ≡ f 0 → b ≡ f 1 → c ≡ f 2 → d ≡ f 3 → e ≡ f 4 → g ≡ f 5 → h ≡ f 6 → i ≡ f 7
    → EachPart (λ (k : ℕ) (x : A). x ≡ f k) (a ∷ b ∷ c ∷ d ∷ e ∷ g ∷ h ∷ i ∷ [])
each_of_eight {A} f a b c d e g h i pa pb pc pd pe pg ph pi =
    each_front (λ (k : ℕ) (x : A). x ≡ f k) a (b ∷ c ∷ d ∷ e ∷ g ∷ h ∷ i ∷ []) pa
    (each_front (λ (k : ℕ) (x : A). x ≡ f (suc k)) b (c ∷ d ∷ e ∷ g ∷ h ∷ i ∷ []) pb
    (each_front (λ (k : ℕ) (x : A). x ≡ f (suc (suc k))) c (d ∷ e ∷ g ∷ h ∷ i ∷ []) pc
    (each_front (λ (k : ℕ) (x : A). x ≡ f (suc (suc (suc k)))) d (e ∷ g ∷ h ∷ i ∷ []) pd
    (each_front (λ (k : ℕ) (x : A). x ≡ f (suc (suc (suc (suc k))))) e (g ∷ h ∷ i ∷ []) pe
    (each_front (λ (k : ℕ) (x : A). x ≡ f (suc (suc (suc (suc (suc k)))))) g (h ∷ i ∷ []) pg
    (each_front (λ (k : ℕ) (x : A). x ≡ f (suc (suc (suc (suc (suc (suc k))))))) h (i ∷ []) ph
    (each_front (λ (k : ℕ) (x : A). x ≡ f (suc (suc (suc (suc (suc (suc (suc k)))))))) i [] pi
    (each_none (λ (k : ℕ) (x : A). x ≡ f (suc (suc (suc (suc (suc (suc (suc (suc k)))))))))))))))))
