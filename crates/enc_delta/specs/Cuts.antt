-- For the contracts of private functions: a search by halves among things in the order of their numbers.
use Rattle.std.specs.Prelude.{ℕ, ◌<◌, ◌≤◌, ◌==◌, Bool, List, length, slice_index_or}
use Rattle.std.specs.List.{list_any}

-- one of some things has this number
abbrev pub is_number_of : {A : Type 0} → (A → ℕ) → List A → ℕ → Bool
is_number_of number xs n = list_any (λ x. number x == n) xs

-- those of a lesser number stand in front, and i is how many they are
pub record IsCutBy {A : Type 0} (number : A → ℕ) (none : A) (xs : List A) (n i : ℕ) : Type 0 where
  pub within : i ≤ length xs
  pub less : (k : ℕ) → k < i → number (slice_index_or xs k none) < n
  pub rest : (k : ℕ) → i ≤ k → k < length xs → n ≤ number (slice_index_or xs k none)
