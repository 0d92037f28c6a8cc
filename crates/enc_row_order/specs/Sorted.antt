-- Lists in the order of keys, where elements of equal keys stay in the order in which they stood.
use Rattle.std.specs.Prelude.{ℕ, List, [], ◌∷◌, nat_le, if◌then◌else◌}

-- an element put before the first whose key isn't smaller
unfoldable pub put_by : {A : Type 0} → (A → ℕ) → A → List A → List A
put_by key x [] = x ∷ []
put_by key x (y ∷ rest) = if nat_le (key x) (key y) then x ∷ y ∷ rest else y ∷ put_by key x rest

-- the elements in the order of their keys, ties by the order of before
unfoldable pub sorted_by : {A : Type 0} → (A → ℕ) → List A → List A
sorted_by key [] = []
sorted_by key (x ∷ rest) = put_by key x (sorted_by key rest)
