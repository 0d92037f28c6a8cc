-- What the definitions of this crate mean.
use Rattle.std.specs.Prelude.{◌≡◌, ℕ, ◌+◌, ◌%◌, ◌<◌, ◌≤◌, List, [], ◌∷◌, ◌++◌, length, take, drop, Contains, IfSome}
use Rattle.enc_base.specs.Numbers.{padded}
use Rattle.enc_meta.specs.Heaps.{text_at}

-- the least multiple of 4 that isn't less
abbrev pub PaddedIsLeast : Type 0
PaddedIsLeast = (n : ℕ) → (padded n % 4 ≡ 0) × (n ≤ padded n) × (padded n < n + 4)

-- the text at an offset above 0 has no zero, and stands there with a zero behind it
abbrev pub TextStands : Type 0
TextStands = (heap : List ℕ) (offset : ℕ) → 0 < offset
    → IfSome (text_at heap offset) (λ t. (¬ Contains t 0) × (take (length t + 1) (drop offset heap) ≡ t ++ 0 ∷ []))
