-- UTF-16 units and the bytes that spell them (ECMA-335 II.24.2.4).
use Rattle.std.specs.Prelude.{ℕ, ◌+◌, ◌*◌, List, [], ◌∷◌}

-- the UTF-16 units that bytes spell, low byte first
unfoldable pub units_of : List ℕ → List ℕ
units_of (a ∷ b ∷ rest) = (a + 256 * b) ∷ units_of rest
units_of _ = []
