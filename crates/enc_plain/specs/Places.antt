-- For the contracts of what remembers blobs that go together, by their places.
use Rattle.std.specs.Prelude.{ℕ, ◌/◌, ◌%◌, ◌^◌, Bool, List, Option}
use Rattle.enc_base.specs.Passed.{AllPass}
use Rattle.enc_sigs.specs.Agree.{if_both}
use Rattle.enc_plain.specs.declared.places.Places.{Places}

-- the blobs at the two places that a number stands for go together
abbrev pub is_related : (List ℕ → List ℕ → Bool) → (ℕ → Option (List ℕ)) → ℕ → Bool
is_related rel stored n = if_both rel (stored (n / 2 ^ 32)) (stored (n % 2 ^ 32))

-- so do all pairs
abbrev pub AreRelatedPlaces : (List ℕ → List ℕ → Bool) → (ℕ → Option (List ℕ)) → Places → Type 0
AreRelatedPlaces rel stored known = AllPass (is_related rel stored) known.numbers
