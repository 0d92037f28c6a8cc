-- For the contracts of private functions: which ranges of RVAs some of many sections hold.
use Rattle.std.specs.Prelude.{◌≡◌, ℕ, ◌+◌, ◌^◌, ◌<◌, ◌≤◌, min, Bool, ◌&&◌, ◌||◌, List, length, nat_le}
use Rattle.std.specs.List.{list_any, slice_index_or}
use Rattle.enc_pe.specs.declared.reach.Corner.{Corner}
use Rattle.enc_pe.specs.declared.section.Section.{Section}
use Rattle.enc_pe.specs.Sections.{holds}

-- the RVAs from one to another, itself not among them, are all in the corner
unfoldable pub covers : ℕ → ℕ → Corner → Bool
covers first behind c = nat_le c.start first && nat_le behind c.end

-- the k-th corner
abbrev pub corner_at : List Corner → ℕ → Corner
corner_at corners k = slice_index_or corners k (record { start = 0; end = 0 })

-- beginnings and ends rise
abbrev pub IsStair : List Corner → Type 0
IsStair corners = (i j : ℕ) → i ≤ j → j < length corners → ((corner_at corners i).start ≤ (corner_at corners j).start)
    × ((corner_at corners i).end ≤ (corner_at corners j).end)

-- each corner begins at an RVA or before
abbrev pub BeginBy : List Corner → ℕ → Type 0
BeginBy corners n = (i : ℕ) → i < length corners → (corner_at corners i).start ≤ n

-- each corner ends at an RVA or before
abbrev pub EndBy : List Corner → ℕ → Type 0
EndBy corners n = (i : ℕ) → i < length corners → (corner_at corners i).end ≤ n

-- a corner of the one list or of the other covers what one of the joined list does
abbrev pub AreJoined : List Corner → List Corner → List Corner → Type 0
AreJoined joined xs ys = (first behind : ℕ)
    → list_any (covers first behind) joined ≡ (list_any (covers first behind) xs || list_any (covers first behind) ys)

-- the range of a section
unfoldable pub corner_of : Section → Corner
corner_of s = record { start = s.rva; end = s.rva + min s.raw.len (2 ^ 62) }

-- the corners cover a range of RVAs where one of the sections holds it
abbrev pub ReachOf : List Section → List Corner → Type 0
ReachOf sections corners = (first many : ℕ) → first < 2 ^ 32 → many < 2 ^ 32
    → list_any (covers first (first + many)) corners ≡ list_any (holds first many) sections
