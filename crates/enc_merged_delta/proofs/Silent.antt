-- Rules that answer nowhere.
use Rattle.std.proofs.Common.{◌≡◌, ℕ, zero, suc, ◌+◌, ◌<◌, Bool, true, false, Option, None, refl, ◌∙◌, arith}
use Rattle.enc_base.specs.Order.{or_else, first_below}
use Rattle.enc_base.specs.declared.refusal.Place.{Place}
use Rattle.enc_base.proofs.First.{first_none, first_more}
use Rattle.enc_delta.specs.Rules.{broken}

pub unbroken_is : (b : Bool) (p : Place) → broken b p ≡ None → b ≡ false
unbroken_is true p h = absurd cc
unbroken_is false p h = refl

-- neither the first of two answers nor the rest does
pub first_silent : (b : Bool) (p : Place) (rest : Option Place) → or_else (broken b p) rest ≡ None → (b ≡ false) × (rest ≡ None)
first_silent true p rest h = absurd cc
first_silent false p rest h = (refl, h)

-- a rule that answers nowhere below n has no first answer there
pub all_silent : {A : Type 0} (rule : ℕ → Option A) (n : ℕ) → ((k : ℕ) → k < n → rule k ≡ None) → first_below rule n ≡ None
all_silent rule zero each = first_none rule
all_silent rule (suc n) each =
    let e : suc n ≡ n + 1 = omega arith in
    rw e (first_more rule n (all_silent rule n (λ k low. each k (omega (arith, low)))) ∙ each n (omega arith))
