-- What a status says of the answer, the printed bytes and the files.
use Rattle.std.specs.Prelude.{◌≡◌, ◌⊎◌, ℕ, Bool, true, ◌||◌, List, Option, ◌==◌}
use Rattle.enc_outside.specs.Outside.{Files, with_piece, GrowsInPart}
use Rattle.enc_commands.specs.declared.ending.Ending.{Ending}
use Rattle.enc_commands.specs.declared.ending.Ending.TheVariants.{Whole, Memory, StoreFault, SinkFault}
use Rattle.enc_commands.specs.Verdict.{Verdict}
use Rattle.enc_commands.specs.Done.{IsAnswer, AreSaves, outcome_of}
use Rattle.enc_commands.specs.Ending.{number_of_outcome, after_saves, IsSavedFront, IsSavedAndPart}

-- the statuses with a whole answer: 0, 1, 2 and 6
abbrev pub answer_is_whole : ℕ → Bool
answer_is_whole status = status == 0 || status == 1 || status == 2 || status == 6

-- the status of a verdict
abbrev pub status_of : Verdict → ℕ
status_of verdict = number_of_outcome (outcome_of verdict)

-- an answer to the verdict is printed, whole; or a prefix of one
abbrev pub IsPrinted : Verdict → Option (List ℕ) → Option (List ℕ) → Type 0
IsPrinted verdict old new = (output : List ℕ) × IsAnswer verdict output × (new ≡ with_piece output old)

abbrev pub IsPartPrinted : Verdict → Option (List ℕ) → Option (List ℕ) → Type 0
IsPartPrinted verdict old new = (output : List ℕ) × IsAnswer verdict output × GrowsInPart output old new

-- what was printed: at a whole status an answer, whole; at 5 a prefix of one; at 3 and 4 nothing
pub record Prints (status : ℕ) (verdict : Verdict) (old new : Option (List ℕ)) : Type 0 where
  pub whole : answer_is_whole status ≡ true → IsPrinted verdict old new
  pub memory : status ≡ 3 → new ≡ old
  pub store : status ≡ 4 → new ≡ old
  pub fault : status ≡ 5 → IsPartPrinted verdict old new

-- what was printed at an ending
abbrev pub PrintsFor : Ending → Verdict → Option (List ℕ) → Option (List ℕ) → Type 0
PrintsFor (Whole outcome) verdict old new = IsPrinted verdict old new
PrintsFor SinkFault verdict old new = IsPartPrinted verdict old new
PrintsFor Memory verdict old new = new ≡ old
PrintsFor StoreFault verdict old new = new ≡ old

-- the verdict's files are saved, whole; the first of them are; or the first, and a part of the next
abbrev pub IsSaved : Verdict → Option Files → Option Files → Type 0
IsSaved verdict old new = (saves : List (List ℕ × List ℕ)) × AreSaves verdict saves × (new ≡ after_saves saves old)

abbrev pub IsFrontSaved : Verdict → Option Files → Option Files → Type 0
IsFrontSaved verdict old new = (saves : List (List ℕ × List ℕ)) × AreSaves verdict saves × IsSavedFront saves old new

abbrev pub IsPartSaved : Verdict → Option Files → Option Files → Type 0
IsPartSaved verdict old new = (saves : List (List ℕ × List ℕ)) × AreSaves verdict saves × IsSavedAndPart saves old new

-- the files afterwards: at a whole status and at 5 those of the verdict; at 3 and 4 as before, or saving stopped on
-- the way
pub record Leaves (status : ℕ) (verdict : Verdict) (old new : Option Files) : Type 0 where
  pub whole : answer_is_whole status ≡ true → IsSaved verdict old new
  pub fault : status ≡ 5 → IsSaved verdict old new
  pub memory : status ≡ 3 → (new ≡ old) ⊎ IsFrontSaved verdict old new
  pub store : status ≡ 4 → (new ≡ old) ⊎ IsPartSaved verdict old new

-- the files after an ending
abbrev pub LeavesAt : Ending → Verdict → Option Files → Option Files → Type 0
LeavesAt (Whole outcome) verdict old new = IsSaved verdict old new
LeavesAt SinkFault verdict old new = IsSaved verdict old new
LeavesAt Memory verdict old new = (new ≡ old) ⊎ IsFrontSaved verdict old new
LeavesAt StoreFault verdict old new = (new ≡ old) ⊎ IsPartSaved verdict old new
