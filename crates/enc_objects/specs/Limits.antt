-- The limits of a store.
use Rattle.std.specs.Prelude.{ℕ}

-- as many objects as there can be
abbrev pub most_objects : ℕ
most_objects = 1000000

-- as many elements of arrays and units of texts as there can be together
abbrev pub most_parts : ℕ
most_parts = 16000000
