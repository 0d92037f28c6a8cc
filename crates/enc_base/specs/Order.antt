-- The first refusal in a stated order.
use Rattle.std.specs.Prelude.{◌≡◌, ℕ, zero, suc, ◌<◌, Option, Some, None, MatchOption}

-- the first answer, and else the second
abbrev pub or_else : {A : Type 0} → Option A → Option A → Option A
or_else (Some x) second = Some x
or_else None second = second

-- what the rule answers at the first place below n at which it answers
unfoldable pub first_below : {A : Type 0} → (ℕ → Option A) → ℕ → Option A
first_below rule zero = None
first_below rule (suc n) = or_else (first_below rule n) (rule n)

-- an answer is the rule's at some place with none before it; no answer, no place that has one
abbrev pub IsFirst : {A : Type 0} → (ℕ → Option A) → ℕ → Option A → Type 0
IsFirst rule n answer = MatchOption answer ((k : ℕ) → k < n → rule k ≡ None)
    (λ x. (k : ℕ) × (k < n) × (rule k ≡ Some x) × ((j : ℕ) → j < k → rule j ≡ None))

abbrev pub MeansFirst : Type 0 → Type 0
MeansFirst A = (rule : ℕ → Option A) (n : ℕ) → IsFirst rule n (first_below rule n)
