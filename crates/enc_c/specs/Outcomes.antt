-- How calls that change a handle end.
use Rattle.std.specs.Prelude.{◌≡◌, ◌⊎◌, ℕ, List, Option, Some, None, option_map, Result, Ok, Err, Vec}
use Rattle.std.specs.declared.alloc.Global.{Global}
use Rattle.enc_base.specs.declared.refusal.Refusal.{Refusal}
use Rattle.enc_base.specs.declared.refusal.ReadFault.{ReadFault}
use Rattle.enc_base.specs.declared.refusal.ReadFault.TheVariants as fault
use Rattle.enc_c.specs.declared.status.Status.{Status}
use Rattle.enc_c.specs.declared.status.Status.TheVariants.{Done, Refused, Memory, Closed, Open}
use Rattle.enc_c.specs.declared.refusal.RefusalNumbers.{RefusalNumbers}
use Rattle.enc_c.specs.Status.{number_of_status}
use Rattle.enc_c.specs.Refusals.{numbers_of}
use Rattle.enc_c.specs.State.{State}

-- the bytes of a file that may be absent
abbrev pub bytes_held : Option (Vec ℕ Global) → Option (List ℕ)
bytes_held bytes = option_map (λ (b : Vec ℕ Global). b.items) bytes

-- files were read, or refused; want of memory tells nothing
abbrev pub ReadsState : {S : Type 0} → Result S ReadFault → Result S Refusal → Type 0
ReadsState (Ok s) said = said ≡ Ok s
ReadsState (Err (fault.Refused e)) said = said ≡ Err e
ReadsState (Err fault.Memory) said = Unit {0}

-- the same of a state that is changed; where files are refused, and where there is no memory, it stays
abbrev pub Becomes : {U : Type 0} → State → State → Result U ReadFault → Result State Refusal → Type 0
Becomes old new (Ok u) said = said ≡ Ok new
Becomes old new (Err (fault.Refused e)) said = (said ≡ Err e) × (new ≡ old)
Becomes old new (Err fault.Memory) said = new ≡ old

-- a fault by a status, and a refusal by its numbers
abbrev pub TellsFault : ℕ → RefusalNumbers → RefusalNumbers → ReadFault → Type 0
TellsFault status old new (fault.Refused e) = (status ≡ number_of_status Refused) × (new ≡ numbers_of e)
TellsFault status old new fault.Memory = (status ≡ number_of_status Memory) × (new ≡ old)

-- the handle and the refusal stay as they were
abbrev pub Stays : {S : Type 0} → Status → ℕ → Option S → Option S → RefusalNumbers → RefusalNumbers → Type 0
Stays s status old new refusal refusal_new = (status ≡ number_of_status s) × (new ≡ old) × (refusal_new ≡ refusal)

-- the handle has the new state; or the files are refused, and it stays as it was
abbrev pub Changes : {S : Type 0} → ℕ → Option S → Option S → RefusalNumbers → RefusalNumbers → Result S Refusal
    → Type 0
Changes status old new refusal refusal_new (Ok s) =
    (status ≡ number_of_status Done) × (new ≡ Some s) × (refusal_new ≡ refusal)
Changes status old new refusal refusal_new (Err e) =
    (status ≡ number_of_status Refused) × (new ≡ old) × (refusal_new ≡ numbers_of e)

-- so it is, or there is no memory
abbrev pub ChangesOrStays : {S : Type 0} → ℕ → Option S → Option S → RefusalNumbers → RefusalNumbers → Result S Refusal
    → Type 0
ChangesOrStays status old new refusal refusal_new said =
    Changes status old new refusal refusal_new said ⊎ Stays Memory status old new refusal refusal_new

-- a handle that is open stays as it is, and one that is closed has what was opened, or stays closed
abbrev pub Opens : {S : Type 0} → ℕ → Option S → Option S → RefusalNumbers → RefusalNumbers → Result S Refusal → Type 0
Opens status None new refusal refusal_new said = ChangesOrStays status None new refusal refusal_new said
Opens status (Some s) new refusal refusal_new said = Stays Open status (Some s) new refusal refusal_new

-- a handle that is closed stays so, and one that is open has what follows its state, or stays as it is
abbrev pub Applies : {S : Type 0} → ℕ → Option S → Option S → RefusalNumbers → RefusalNumbers → (S → Result S Refusal)
    → Type 0
Applies status None new refusal refusal_new answer = Stays Closed status None new refusal refusal_new
Applies status (Some s) new refusal refusal_new answer =
    ChangesOrStays status (Some s) new refusal refusal_new (answer s)
