-- For the contracts of private functions: what the plan of a verdict says, and where saving stops.
use Rattle.std.specs.Prelude.{◌≡◌, ℕ, List, Option}
use Rattle.enc_outside.specs.Outside.{Files}
use Rattle.enc_outside.specs.declared.store.SaveError.{SaveError}
use Rattle.enc_outside.specs.declared.store.SaveError.TheVariants.{Memory, Failed}
pub use Rattle.enc_saves.specs.Saves.{saves_of}
use Rattle.enc_commands.specs.declared.plan.Plan.{Plan}
use Rattle.enc_commands.specs.Ending.{IsSavedFront, IsSavedAndPart}
use Rattle.enc_commands.specs.Verdict.{Verdict}
use Rattle.enc_commands.specs.Done.{IsAnswer, AreSaves, outcome_of}

-- the files where saving stopped
abbrev pub SavesStop : SaveError → List (List ℕ × List ℕ) → Option Files → Option Files → Type 0
SavesStop Memory saves old new = IsSavedFront saves old new
SavesStop Failed saves old new = IsSavedAndPart saves old new

-- the plan of a verdict
pub record IsPlanOf (verdict : Verdict) (plan : Plan) : Type 0 where
  pub outcome : plan.outcome ≡ outcome_of verdict
  pub output : IsAnswer verdict plan.output.items
  pub saves : AreSaves verdict (saves_of plan.saves.items)
