-- The rows that edits add, by their tables.
use Rattle.std.specs.Prelude.{◌≡◌, ℕ, ◌+◌, ◌<◌, Bool, false, ◌==◌, List, [], ◌∷◌, ◌++◌, length, filter, get_or, if◌then◌else◌}
use Rattle.enc_edit_list.specs.declared.edit.Edit.{Edit}
use Rattle.enc_edit_list.specs.declared.edit.Edit.TheVariants.{Add, Body}

-- the edit adds a row to the table
abbrev pub adds_to : ℕ → Edit → Bool
adds_to t (Add table owner cells code points) = table == t
adds_to t (Body method code points) = false

-- the edits that do, and how many there are
unfoldable pub adding : List Edit → ℕ → List Edit
adding edits t = filter (adds_to t) edits

unfoldable pub rows_added : List Edit → ℕ → ℕ
rows_added edits t = length (adding edits t)

-- their places among all, counted on from one
unfoldable pub places_from : ℕ → List Edit → ℕ → List ℕ
places_from at [] t = []
places_from at (e ∷ rest) t = if adds_to t e then at ∷ places_from (at + 1) rest t else places_from (at + 1) rest t

-- by table the places of the edits that add rows to it
pub record ArePlaces (places : List (List ℕ)) (edits : List Edit) : Type 0 where
  pub tables : length places ≡ 256
  pub each : (t : ℕ) → t < 256 → get_or places t [] ≡ places_from 0 edits t

-- how many rows edits before this one add to its table
abbrev pub rank_of : List Edit → Edit → ℕ
rank_of before (Add table owner cells code points) = rows_added before table
rank_of before (Body method code points) = 0

unfoldable pub ranks_behind : List Edit → List Edit → List ℕ
ranks_behind before [] = []
ranks_behind before (e ∷ rest) = rank_of before e ∷ ranks_behind (before ++ e ∷ []) rest

-- of each edit its rank
abbrev pub ranks_of : List Edit → List ℕ
ranks_of edits = ranks_behind [] edits

-- by table the places of the edits that add rows to it, and of each edit its rank
pub record KnowsAdded (places : List (List ℕ)) (ranks : List ℕ) (edits : List Edit) : Type 0 where
  pub placed : ArePlaces places edits
  pub ranked : ranks ≡ ranks_of edits
