-- The search for a clause as it goes over the clauses, one after the other.
use Rattle.std.specs.Prelude.{ℕ, ◌+◌, Bool, List, [], ◌∷◌, Option, Some, None, if◌then◌else◌}
use Rattle.enc_opcodes.specs.Body.{Handler}

-- the number of the first of some clauses that passes a test, where the first of them has this number
unfoldable pub first_from : (ℕ → Handler → Bool) → ℕ → List Handler → Option ℕ
first_from test k [] = None
first_from test k (clause ∷ rest) = if test k clause then Some k else first_from test (k + 1) rest
