-- What is saved: names and bytes, in order.
use Rattle.std.specs.Prelude.{ℕ, List, [], ◌∷◌, map, string_bytes}
use Rattle.enc_emit.specs.declared.delta_bytes.DeltaBytes.{DeltaBytes}
use Rattle.enc_saves.specs.Names.{dll, meta, il, pdb}
use Rattle.enc_saves.specs.declared.save.Save.{Save}

-- saves, each a name and its bytes
abbrev pub saves_of : List Save → List (List ℕ × List ℕ)
saves_of saves = map (λ (s : Save). (string_bytes s.name, s.bytes.items)) saves

-- the saves of a module with its PDB, and those of a delta
abbrev pub module_saves : List ℕ → List ℕ → List ℕ → List (List ℕ × List ℕ)
module_saves name image symbols = (dll name, image) ∷ (pdb name, symbols) ∷ []

abbrev pub delta_saves : List ℕ → DeltaBytes → List (List ℕ × List ℕ)
delta_saves name d = (meta name, d.meta) ∷ (il name, d.il) ∷ (pdb name, d.pdb) ∷ []
