-- What is read of a text, and of a value in it: want of memory is the one free answer.
use Rattle.std.specs.Prelude.{◌≡◌, ℕ, Option, Some, None, Result, Ok, Err}
use Rattle.enc_jobs.specs.declared.fault.JobFault.{JobFault}
use Rattle.enc_jobs.specs.declared.fault.JobFault.TheVariants as fault
use Rattle.enc_jobs.specs.declared.fault.Refused.{Refused}
use Rattle.enc_jobs.specs.declared.fault.Refused.TheVariants as refused

-- what is read of a value is what it says, and it is refused exactly where it says nothing
abbrev pub ReadsAs : {A : Type 0} → Result A Refused → Option A → Type 0
ReadsAs (Ok x) said = said ≡ Some x
ReadsAs (Err refused.Memory) said = Unit {0}
ReadsAs (Err refused.Form) said = said ≡ None

-- what is read of a text is what it says, and it is refused as it is
abbrev pub GivesList : {A : Type 0} → Result A JobFault → Result A JobFault → Type 0
GivesList (Ok x) said = said ≡ Ok x
GivesList (Err fault.Memory) said = Unit {0}
GivesList (Err fault.J1) said = said ≡ Err fault.J1
GivesList (Err (fault.J2 n)) said = said ≡ Err (fault.J2 n)
GivesList (Err fault.L3) said = said ≡ Err fault.L3

-- why the element with a number isn't read, by why its value isn't
abbrev pub fault_of_element : ℕ → Refused → JobFault
fault_of_element n refused.Memory = fault.Memory
fault_of_element n refused.Form = fault.J2 n
