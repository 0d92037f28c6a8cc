-- What is copied into a buffer.
use Rattle.std.specs.Prelude.{◌≡◌, ◌⊎◌, ℕ, List, ◌++◌, length, drop, nat_le, Result, Ok, Err, if◌then◌else◌}
use Rattle.enc_c.specs.declared.status.Status.{Status}
use Rattle.enc_c.specs.declared.status.Status.TheVariants.{Done, Memory, Short}
use Rattle.enc_c.specs.Status.{number_of_status}

-- all items stand at the buffer's front, or, where it is too short, nothing is written
unfoldable pub copied : {A : Type 0} → List A → List A → List A
copied items buffer = if nat_le (length items) (length buffer) then items ++ drop (length items) buffer else buffer

unfoldable pub status_of_copy : {A : Type 0} → List A → List A → Status
status_of_copy items buffer = if nat_le (length items) (length buffer) then Done else Short

-- items were copied into a buffer, and how many there are is told in any case
pub record IsCopiedOut {A : Type 0} (number : ℕ) (old new : List A) (count : ℕ) (items : List A) : Type 0 where
  pub status : number ≡ number_of_status (status_of_copy items old)
  pub buffer : new ≡ copied items old
  pub size : count ≡ length items

-- items are copied, or the status says why there are none, and then nothing is written
abbrev pub Copies : {A : Type 0} → ℕ → List A → List A → ℕ → ℕ → Result (List A) Status → Type 0
Copies number old new before count (Ok items) = IsCopiedOut number old new count items
Copies number old new before count (Err s) = (number ≡ number_of_status s) × (new ≡ old) × (count ≡ before)

-- so it is, or there is no memory
abbrev pub CopiesOrStays : {A : Type 0} → ℕ → List A → List A → ℕ → ℕ → Result (List A) Status → Type 0
CopiesOrStays number old new before count said =
    Copies number old new before count said ⊎ Copies number old new before count (Err Memory)
