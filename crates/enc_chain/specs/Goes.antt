-- What is said of sequence points goes with the deltas that say it.
use Rattle.std.specs.Prelude.{◌≡◌, List, [], ◌∷◌, Option, Some, None}
use Rattle.enc_rows.specs.Source.{Source}
use Rattle.enc_ppdb.specs.Misplaced.{first_misplaced}
use Rattle.enc_ppdb.specs.PdbChain.{DebugDelta}
use Rattle.enc_checker.specs.Check.{code_sizes, new_bodies}

-- no row of a delta's PDB, where it has one, is out of place
abbrev pub PdbGoes : Source → Option Source → Type 0
PdbGoes d None = Unit {0}
PdbGoes d (Some p) = first_misplaced p (code_sizes d) ≡ None

-- the methods with new bodies are the delta's, and no row of its PDB is out of place
pub record GoesWith (d : Source) (x : DebugDelta) : Type 0 where
  pub changed : x.changed ≡ new_bodies d
  pub pdb : PdbGoes d x.pdb

-- so it is of each of a chain's deltas, and each has what is said of it
unfoldable pub AllGo : List Source → List DebugDelta → Type 0
AllGo [] [] = Unit {0}
AllGo (d ∷ deltas) (x ∷ debugs) = GoesWith d x × AllGo deltas debugs
AllGo _ _ = ⊥
