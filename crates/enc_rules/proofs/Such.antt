-- The first place that passes a test, by what it means.
use Rattle.std.proofs.Common.{◌≡◌, ℕ, zero, suc, ◌+◌, ◌<◌, Bool, true, false, Option, Some, None, refl, sym, ap, arith, inl, inr}
use Rattle.std.specs.Prelude.{◌⊎◌, ◌||◌, nat_le}
use Rattle.std.proofs.lemmas.Bool.{cases_lt}
use Rattle.std.proofs.lemmas.Bool.Decides.{nat_tests}
use Rattle.enc_rules.specs.First.{first_such}
use Rattle.enc_rules.specs.Told.{earlier}
use Rattle.enc_rules.proofs.EditAt.{such_none, such_more, such_found}

-- the place passes the test and none before does, or none does
abbrev pub SuchIs : (ℕ → Bool) → ℕ → Option ℕ → Type 0
SuchIs test n None = (k : ℕ) → k < n → test k ≡ false
SuchIs test n (Some m) = (m < n) × (test m ≡ true) × ((k : ℕ) → k < m → test k ≡ false)

pub none_such : (test : ℕ → Bool) (n : ℕ) → ((k : ℕ) → k < n → test k ≡ false) → first_such test n ≡ None
none_such test zero h = such_none test
none_such test (suc n) h =
    let e : suc n ≡ n + 1 = omega arith in
    rw e (such_more test n (none_such test n (λ k l. h k (omega arith))) (h n (omega arith)))

pub such_unique : (test : ℕ → Bool) (n : ℕ) (o : Option ℕ) → SuchIs test n o → o ≡ first_such test n
such_unique test n None h = sym (none_such test n h)
such_unique test n (Some m) h = such_found test n m h.0 (none_such test m h.2) h.1

two : (b : Bool) → (b ≡ true) ⊎ (b ≡ false)
two true = inl refl
two false = inr refl

-- one place more
one_more : (test : ℕ → Bool) (n : ℕ) (o : Option ℕ) → SuchIs test n o → (test n ≡ true) ⊎ (test n ≡ false) → (p : Option ℕ) × SuchIs test (suc n) p
one_more test n (Some m) h b = (Some m, (omega (arith, h.0), h.1, h.2))
one_more test n None h (inl is) = (Some n, (omega arith, is, h))
one_more test n None h (inr not) = (None, λ k l. elim (cases_lt k n) [ inl a ↦ h k a | inr a ↦ let e : k ≡ n = omega arith in rw e not ])

some_such : (test : ℕ → Bool) (n : ℕ) → (o : Option ℕ) × SuchIs test n o
some_such test zero = (None, λ k l. absurd (omega arith))
some_such test (suc n) = let w = some_such test n in one_more test n w.0 w.1 (two (test n))

pub such_means : (test : ℕ → Bool) (n : ℕ) → SuchIs test n (first_such test n)
such_means test n = let w = some_such test n in rw (← such_unique test n w.0 w.1) w.1

either_false : (a b : Bool) → a ≡ false → b ≡ false → (a || b) ≡ false
either_false a b h i = rw (h, i) refl

left_true : (a b : Bool) → a ≡ true → (a || b) ≡ true
left_true a b h = rw h refl

right_true : (a b : Bool) → b ≡ true → (a || b) ≡ true
right_true true b h = refl
right_true false b h = h

-- the earlier of two first places is the first that passes either test
both_are : (p q : ℕ → Bool) (n : ℕ) (a b : Option ℕ) → SuchIs p n a → SuchIs q n b → SuchIs (λ k. p k || q k) n (earlier a b)
both_are p q n None None h i = λ k l. either_false (p k) (q k) (h k l) (i k l)
both_are p q n None (Some m) h i = (i.0, right_true (p m) (q m) i.1, λ k l. either_false (p k) (q k) (h k (omega (arith, i.0))) (i.2 k l))
both_are p q n (Some m) None h i = (h.0, left_true (p m) (q m) h.1, λ k l. either_false (p k) (q k) (h.2 k l) (i k (omega (arith, h.0))))
both_are p q n (Some a) (Some b) h i = elim (cases_lt b a) [
  | inl l ↦
      let e : nat_le a b ≡ false = grind (arith, nat_tests) in
      rw e (i.0, right_true (p b) (q b) i.1, λ k m. either_false (p k) (q k) (h.2 k (omega arith)) (i.2 k m))
  | inr l ↦
      let e : nat_le a b ≡ true = grind (arith, nat_tests) in
      rw e (h.0, left_true (p a) (q a) h.1, λ k m. either_false (p k) (q k) (h.2 k m) (i.2 k (omega arith)))
]

pub earlier_is : (p q : ℕ → Bool) (n : ℕ) → earlier (first_such p n) (first_such q n) ≡ first_such (λ k. p k || q k) n
earlier_is p q n = such_unique (λ k. p k || q k) n _ (both_are p q n _ _ (such_means p n) (such_means q n))

-- equal tests
same_functions : {A B : Type 0} (f g : A → B) → ((a : A) → f a ≡ g a) → f ≡ g
same_functions f g h i a = h a i

pub such_alike : (p q : ℕ → Bool) (n : ℕ) → ((k : ℕ) → p k ≡ q k) → first_such p n ≡ first_such q n
such_alike p q n h = ap (λ (f : ℕ → Bool). first_such f n) (same_functions p q h)
