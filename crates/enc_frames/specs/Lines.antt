-- The line at which a frame stands (Portable PDB, sequence points).
use Rattle.std.specs.Prelude.{ℕ, List, [], ◌∷◌, Option, Some, None, ◌==◌, if◌then◌else◌}

-- the line of a frame's offset: that of its first point there that isn't hidden
unfoldable pub line_among : ℕ → List (ℕ × Option (ℕ × ℕ × ℕ × ℕ)) → Option ℕ
line_among offset [] = None
line_among offset ((at, None) ∷ rest) = line_among offset rest
line_among offset ((at, Some lines) ∷ rest) = if at == offset then Some lines.0 else line_among offset rest
