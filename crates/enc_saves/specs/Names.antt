-- The names of files.
use Rattle.std.specs.Prelude.{ℕ, List, ◌++◌, codes, decimal}

-- the file of a base, and the files of a delta
abbrev pub dll : List ℕ → List ℕ
dll base = base ++ codes ".dll"

abbrev pub meta : List ℕ → List ℕ
meta delta = delta ++ codes ".meta"

abbrev pub il : List ℕ → List ℕ
il delta = delta ++ codes ".il"

-- the Portable PDB of a base or a delta, which may be absent
abbrev pub pdb : List ℕ → List ℕ
pdb word = word ++ codes ".pdb"

-- the names of a list's delta, and of the module after all
abbrev pub delta_name : List ℕ → ℕ → List ℕ
delta_name out list = out ++ codes "_" ++ decimal list

abbrev pub last_name : List ℕ → List ℕ
last_name out = out ++ codes "_all"
