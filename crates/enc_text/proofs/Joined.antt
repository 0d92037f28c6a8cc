-- Texts one behind the other.
use Rattle.std.proofs.Common.{◌≡◌, ℕ, suc, ◌+◌, List, [], ◌++◌, refl, sym, ◌∙◌, append_assoc, append-nil, arith}
use Rattle.enc_text.specs.RowText.{joined_below}

pub joined_none : (f : ℕ → List ℕ) → joined_below f 0 ≡ []
unfolding joined_below
joined_none f = refl

pub joined_more : (f : ℕ → List ℕ) (n : ℕ) → joined_below f (n + 1) ≡ joined_below f n ++ f n
unfolding joined_below
joined_more f n = let e : n + 1 ≡ suc n = omega arith in rw e refl

pub joined_start : (f : ℕ → List ℕ) (old : List ℕ) → old ≡ old ++ joined_below f 0
joined_start f old = rw (joined_none f) (sym (append-nil old))

pub joined_step : (f : ℕ → List ℕ) (n : ℕ) (old now new : List ℕ) → now ≡ old ++ joined_below f n → new ≡ now ++ f n → new ≡ old ++ joined_below f (n + 1)
joined_step f n old now new before more = more ∙ rw (before, joined_more f n) (append_assoc old (joined_below f n) (f n))
