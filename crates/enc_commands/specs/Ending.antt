-- How a call ends: its status, what became of the files, and what was printed.
use Rattle.std.specs.Prelude.{◌≡◌, ℕ, List, [], ◌∷◌, take, Option, slice_get, IsSomeAnd}
use Rattle.enc_outside.specs.Outside.{Files, with_file, with_piece, IsSavedInPart, GrowsInPart}
use Rattle.enc_commands.specs.declared.plan.Outcome.{Outcome}
use Rattle.enc_commands.specs.declared.plan.Outcome.TheVariants.{Accepted, Refused, Usage, Missing}
use Rattle.enc_commands.specs.declared.ending.Ending.{Ending}
use Rattle.enc_commands.specs.declared.ending.Ending.TheVariants.{Whole, Memory, StoreFault, SinkFault}

-- the status of an outcome, and of an ending
abbrev pub number_of_outcome : Outcome → ℕ
number_of_outcome Accepted = 0
number_of_outcome Refused = 1
number_of_outcome Usage = 2
number_of_outcome Missing = 6

abbrev pub number_of_ending : Ending → ℕ
number_of_ending (Whole outcome) = number_of_outcome outcome
number_of_ending Memory = 3
number_of_ending StoreFault = 4
number_of_ending SinkFault = 5

-- the told files after some saves in order
unfoldable pub after_saves : List (List ℕ × List ℕ) → Option Files → Option Files
after_saves [] told = told
after_saves (s ∷ saves) told = after_saves saves (with_file s.0 s.1 told)

-- the first of the saves are made
abbrev pub IsSavedFront : List (List ℕ × List ℕ) → Option Files → Option Files → Type 0
IsSavedFront saves old new = (n : ℕ) × (new ≡ after_saves (take n saves) old)

-- the first of the saves are made, and of the next one its name may hold a part
abbrev pub IsSavedAndPart : List (List ℕ × List ℕ) → Option Files → Option Files → Type 0
IsSavedAndPart saves old new =
    (n : ℕ) × IsSomeAnd (slice_get saves n) (λ s. IsSavedInPart s.0 s.1 (after_saves (take n saves) old) new)

-- the files after an ending of these saves: after all of them; after the first of them; or these and a part of the next
abbrev pub SavesAt : Ending → List (List ℕ × List ℕ) → Option Files → Option Files → Type 0
SavesAt (Whole outcome) saves old new = new ≡ after_saves saves old
SavesAt SinkFault saves old new = new ≡ after_saves saves old
SavesAt Memory saves old new = IsSavedFront saves old new
SavesAt StoreFault saves old new = IsSavedAndPart saves old new

-- the sink's bytes after an ending: the whole output, a prefix of it where the sink failed, and else what they were
abbrev pub PrintsAt : Ending → List ℕ → Option (List ℕ) → Option (List ℕ) → Type 0
PrintsAt (Whole outcome) output old new = new ≡ with_piece output old
PrintsAt SinkFault output old new = GrowsInPart output old new
PrintsAt Memory output old new = new ≡ old
PrintsAt StoreFault output old new = new ≡ old

-- a fact of the outcome, where the ending is whole
abbrev pub IfWhole : Ending → (Outcome → Type 0) → Type 0
IfWhole (Whole outcome) P = P outcome
IfWhole _ P = Unit {0}
