-- The first place that passes a test, as a loop works it out.
use Rattle.std.proofs.Common.{◌≡◌, ℕ, ◌+◌, ◌<◌, ◌≤◌, Bool, true, false, Some, None, refl, sym, ◌∙◌, arith}
use Rattle.std.specs.Prelude.{if◌then◌else◌}
use Rattle.enc_base.proofs.First.{first_none, first_more, first_found}
use Rattle.enc_rules.specs.First.{first_such}

pub such_none : (test : ℕ → Bool) → first_such test 0 ≡ None
such_none test = first_none (λ k. if test k then Some k else None)

pub such_more : (test : ℕ → Bool) (k : ℕ) → first_such test k ≡ None → test k ≡ false → first_such test (k + 1) ≡ None
such_more test k none is = first_more (λ k. if test k then Some k else None) k none ∙ rw is refl

pub such_found : (test : ℕ → Bool) (n k : ℕ) → k < n → first_such test k ≡ None → test k ≡ true → Some k ≡ first_such test n
such_found test n k low none is = first_found (λ k. if test k then Some k else None) n k (Some k) low none (rw is refl) refl

pub such_end : (test : ℕ → Bool) (n k : ℕ) → k ≤ n → n ≤ k → first_such test k ≡ None → None ≡ first_such test n
such_end test n k low high none = let e : n ≡ k = omega arith in rw e (sym none)
