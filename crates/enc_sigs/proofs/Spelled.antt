-- What signatures spell.
use Rattle.std.proofs.Common.{◌≡◌, suc, List, [], ◌∷◌, length, refl, ap}
use Rattle.enc_sigs.specs.Tree.{Tree, forest_of}
use Rattle.enc_sigs.specs.Spelling.{spellings}

-- as many as there are types
pub length_spellings : (ts : List Tree) → length (spellings (forest_of ts)) ≡ length ts
unfolding spellings
length_spellings [] = refl
length_spellings (t ∷ ts) = ap suc (length_spellings ts)
