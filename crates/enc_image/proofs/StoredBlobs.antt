-- A blob by its offset in the heap.
use Rattle.std.proofs.Common.{◌≡◌, ℕ, true, List, Option, Some, None, refl}
use Rattle.std.specs.Prelude.{is_some, option_map, MatchOption}
use Rattle.enc_plain.specs.Cell.{Cell, blob}

pub as_stored : (o : Option (List ℕ)) (cell : Option Cell) → MatchOption o ⊥ (λ a. cell ≡ Some (blob a)) → cell ≡ option_map blob o
as_stored None cell h = absurd h
as_stored (Some bytes) cell h = h

pub is_stored : (o : Option (List ℕ)) (cell : Option Cell) → MatchOption o ⊥ (λ a. cell ≡ Some (blob a)) → is_some o ≡ true
is_stored None cell h = absurd h
is_stored (Some bytes) cell h = refl
