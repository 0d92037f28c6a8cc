-- How a call ends that judges a delta and adds nothing.
use Rattle.std.specs.Prelude.{◌≡◌, ◌⊎◌, ℕ, Option, Some, None, Result, Ok, Err}
use Rattle.enc_base.specs.declared.refusal.Refusal.{Refusal}
use Rattle.enc_base.specs.declared.refusal.ReadFault.{ReadFault}
use Rattle.enc_base.specs.declared.refusal.ReadFault.TheVariants as fault
use Rattle.enc_c.specs.declared.status.Status.{Status}
use Rattle.enc_c.specs.declared.status.Status.TheVariants.{Done, Refused, Memory, Closed}
use Rattle.enc_c.specs.declared.refusal.RefusalNumbers.{RefusalNumbers}
use Rattle.enc_c.specs.Status.{number_of_status}
use Rattle.enc_c.specs.Refusals.{numbers_of}
use Rattle.enc_c.specs.State.{State}

-- files come to a state
abbrev pub IsAccepted : Result State Refusal → Type 0
IsAccepted (Ok s) = Unit {0}
IsAccepted (Err e) = ⊥

-- files are accepted, or refused; want of memory tells nothing
abbrev pub JudgesAs : {U : Type 0} → Result U ReadFault → Result State Refusal → Type 0
JudgesAs (Ok u) said = IsAccepted said
JudgesAs (Err (fault.Refused e)) said = said ≡ Err e
JudgesAs (Err fault.Memory) said = Unit {0}

-- nothing is told but a status
abbrev pub TellsStatus : Status → ℕ → RefusalNumbers → RefusalNumbers → Type 0
TellsStatus s status refusal refusal_new = (status ≡ number_of_status s) × (refusal_new ≡ refusal)

-- the status of files that are accepted, or that of files that are refused, with the refusal
abbrev pub TellsVerdict : ℕ → RefusalNumbers → RefusalNumbers → Result State Refusal → Type 0
TellsVerdict status refusal refusal_new (Ok s) = TellsStatus Done status refusal refusal_new
TellsVerdict status refusal refusal_new (Err e) = (status ≡ number_of_status Refused) × (refusal_new ≡ numbers_of e)

-- so it is, or there is no memory
abbrev pub Judges : ℕ → RefusalNumbers → RefusalNumbers → Result State Refusal → Type 0
Judges status refusal refusal_new said =
    TellsVerdict status refusal refusal_new said ⊎ TellsStatus Memory status refusal refusal_new

-- so it is after the state of an open handle
abbrev pub JudgesFiles : ℕ → Option State → RefusalNumbers → RefusalNumbers → (State → Result State Refusal) → Type 0
JudgesFiles status None refusal refusal_new answer = TellsStatus Closed status refusal refusal_new
JudgesFiles status (Some s) refusal refusal_new answer = Judges status refusal refusal_new (answer s)
