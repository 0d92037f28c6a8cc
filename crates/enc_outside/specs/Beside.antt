-- The names of new files that take the place of others.
use Rattle.std.specs.Prelude.{ℕ, List, ◌++◌, codes, decimal}

-- the name of a new file that shall take the place of the file of this name
abbrev pub new_name : List ℕ → ℕ → List ℕ
new_name name number = codes "." ++ (name ++ (codes ".enc-" ++ decimal number))
