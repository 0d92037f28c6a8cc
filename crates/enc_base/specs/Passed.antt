-- For the contracts of private functions: numbers that passed a test, kept so that none is tested again.
use Rattle.std.specs.Prelude.{◌≡◌, ℕ, Bool, true}
use Rattle.std.specs.Ordering.{nat_cmp}
use Rattle.std.specs.BTreeSet.{BTreeSet, contains}

-- each number of the set passes the test
abbrev pub AllPass : (ℕ → Bool) → BTreeSet ℕ → Type 0
AllPass test set = (n : ℕ) → contains nat_cmp set n ≡ true → test n ≡ true
