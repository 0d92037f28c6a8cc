-- The first of some frames, and the others.
use Rattle.std.specs.Prelude.{List, [], ◌∷◌, Option, Some, None}

abbrev pub first_if_any : {A : Type 0} → List A → Option A
first_if_any [] = None
first_if_any (x ∷ rest) = Some x

abbrev pub without_first : {A : Type 0} → List A → List A
without_first [] = []
without_first (x ∷ rest) = rest
