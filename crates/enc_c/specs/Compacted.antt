-- How a call ends that writes the module after all deltas in the order of an ordinary one.
use Rattle.std.specs.Prelude.{◌≡◌, ◌⊎◌, ℕ, List, Option, Some, None}
use Rattle.enc_plain.specs.Debug.{PlainPdb}
use Rattle.enc_plain.specs.Module.{Module}
use Rattle.enc_compact.specs.Moved.{module_moved, pdb_moved}
use Rattle.enc_rewriter.specs.Limits.{Passed, rewrite_limit}
use Rattle.enc_rewriter.specs.Rewritten.{IsPlainImage, RewritesTo}
use Rattle.enc_c.specs.declared.compacting.MoveNumbers.{MoveNumbers}
use Rattle.enc_c.specs.declared.refusal.RefusalNumbers.{RefusalNumbers}
use Rattle.enc_c.specs.declared.status.Status.{Status}
use Rattle.enc_c.specs.declared.status.Status.TheVariants.{Refused, Memory, Closed}
use Rattle.enc_c.specs.Moves.{moves_told}
use Rattle.enc_c.specs.Reasons.{numbers_of_reason}
use Rattle.enc_c.specs.Saved.{Buffer, CopiesThree, IsUntouched, reason_of_limit}
use Rattle.enc_c.specs.State.{State, module_after, pdb_after}
use Rattle.enc_c.specs.Status.{number_of_status}

-- nothing is told of three buffers and a refusal but a status
pub record TellsOfThree {A : Type 0} (s : Status) (status : ℕ) (a b : Buffer ℕ) (c : Buffer A)
    (old new : RefusalNumbers) : Type 0 where
  pub status_is : status ≡ number_of_status s
  pub first : IsUntouched a
  pub second : IsUntouched b
  pub third : IsUntouched c
  pub refusal : new ≡ old

-- or a refusal alone
pub record RefusesThree {A : Type 0} (status : ℕ) (a b : Buffer ℕ) (c : Buffer A)
    (new numbers : RefusalNumbers) : Type 0 where
  pub status_is : status ≡ number_of_status Refused
  pub first : IsUntouched a
  pub second : IsUntouched b
  pub third : IsUntouched c
  pub refusal : new ≡ numbers

-- an ordinary module and its plain PDB are written into two buffers, and the rows that move into the third
pub record WritesOrdinary (status : ℕ) (m : Module) (p : PlainPdb) (a b : Buffer ℕ)
    (c : Buffer MoveNumbers) : Type 0 where
  pub image : List ℕ
  pub symbols : List ℕ
  pub written : RewritesTo (module_moved m) (pdb_moved m p) image symbols
  pub plain : IsPlainImage image
  pub copied : CopiesThree status a b c image symbols (moves_told m)

-- so it is where they pass no limit, and else the first limit is told
abbrev pub CompactsUnless :
    ℕ → Module → PlainPdb → Buffer ℕ → Buffer ℕ → Buffer MoveNumbers → RefusalNumbers → RefusalNumbers → Option Passed
    → Type 0
CompactsUnless status m p a b c old new None = WritesOrdinary status m p a b c × (new ≡ old)
CompactsUnless status m p a b c old new (Some passed) =
    RefusesThree status a b c new (numbers_of_reason (reason_of_limit passed))

-- so it is, or there is no memory
abbrev pub CompactsModule : ℕ → Module → PlainPdb → Buffer ℕ → Buffer ℕ → Buffer MoveNumbers → RefusalNumbers
    → RefusalNumbers → Type 0
CompactsModule status m p a b c old new =
    CompactsUnless status m p a b c old new
    (rewrite_limit (module_moved m) (pdb_moved m p)) ⊎ TellsOfThree Memory status a b c old new

-- the module and the PDB after all deltas of an open handle
abbrev pub Compacts : ℕ → Option State → Buffer ℕ → Buffer ℕ → Buffer MoveNumbers → RefusalNumbers → RefusalNumbers
    → Type 0
Compacts status None a b c old new = TellsOfThree Closed status a b c old new
Compacts status (Some s) a b c old new = CompactsModule status (module_after s) (pdb_after s) a b c old new
