-- What the first refusal in a stated order means, and how a loop works it out.
use Rattle.std.proofs.Common.{◌≡◌, ℕ, zero, suc, ◌+◌, ◌-◌, ◌<◌, ◌≤◌, true, Option, Some, None, refl, sym, ◌∙◌, arith, below_more}
use Rattle.std.specs.Prelude.{is_some}
use Rattle.enc_base.specs.Order.{or_else, first_below, IsFirst}

-- nothing is answered below 0
pub first_none : {A : Type 0} (rule : ℕ → Option A) → first_below rule 0 ≡ None
unfolding first_below
first_none rule = refl

-- one place more
pub first_suc : {A : Type 0} (rule : ℕ → Option A) (n : ℕ) → first_below rule (suc n) ≡ or_else (first_below rule n) (rule n)
unfolding first_below
first_suc rule n = refl

-- where no place below n answers, n + 1 places answer what place n does
pub first_more : {A : Type 0} (rule : ℕ → Option A) (n : ℕ) → first_below rule n ≡ None → first_below rule (n + 1) ≡ rule n
first_more {A} rule n none =
    let e : n + 1 ≡ suc n = omega arith in
    rw (e, first_suc rule n, none) refl

-- a later bound keeps an answer
kept_by : {A : Type 0} (rule : ℕ → Option A) (x : A) (n d : ℕ) → first_below rule n ≡ Some x → first_below rule (n + d) ≡ Some x
kept_by rule x n zero h = let e : n + 0 ≡ n = omega arith in rw e h
kept_by rule x n (suc d) h =
    let e : n + suc d ≡ suc (n + d) = omega arith in
    rw (e, first_suc rule (n + d), kept_by rule x n d h) refl

pub first_kept : {A : Type 0} (rule : ℕ → Option A) (x : A) (m n : ℕ) → m ≤ n → first_below rule m ≡ Some x → first_below rule n ≡ Some x
first_kept rule x m n le h =
    let e : n ≡ m + (n - m) = omega arith in
    rw e (kept_by rule x m (n - m) h)

answered : {A : Type 0} (o : Option A) → is_some o ≡ true → (x : A) × (o ≡ Some x)
answered (Some x) h = (x, refl)
answered None h = absurd (cc)

-- a loop that finds an answer at place i, with none before it, has the answer of the whole
pub first_found : {A : Type 0} (rule : ℕ → Option A) (n i : ℕ) (o : Option A) → i < n → first_below rule i ≡ None → o ≡ rule i → is_some o ≡ true → o ≡ first_below rule n
first_found rule n i o lt none is some =
    let w = answered o some in
    let here : first_below rule (i + 1) ≡ Some w.0 = first_more rule i none ∙ sym is ∙ w.1 in
    w.1 ∙ sym (first_kept rule w.0 (i + 1) n (omega arith) here)

one_more : {A : Type 0} (rule : ℕ → Option A) (n : ℕ) (before here : Option A) → IsFirst rule n before → rule n ≡ here → IsFirst rule (suc n) (or_else before here)
one_more rule n (Some x) here h e = (h.0, omega (arith, h.1), h.2, h.3)
one_more rule n None None h e =
    let s : suc n ≡ n + 1 = omega arith in
    rw s (below_more (λ k. rule k ≡ None) n h e)
one_more rule n None (Some x) h e = (n, omega arith, e, h)

-- it is the rule's answer at the first place that has one
pub first_means : {A : Type 0} (rule : ℕ → Option A) (n : ℕ) → IsFirst rule n (first_below rule n)
first_means rule zero = rw (first_none rule) (λ k h. absurd (omega arith))
first_means rule (suc n) = rw (first_suc rule n) (one_more rule n _ (rule n) (first_means rule n) refl)

-- no answer below n, none at any place below
pub silent : {A : Type 0} (rule : ℕ → Option A) (n k : ℕ) → first_below rule n ≡ None → k < n → rule k ≡ None
silent rule n k none lt = (rw none at (first_means rule n)) k lt

pub ruleset first_steps = (first_none, first_found, first_more)
