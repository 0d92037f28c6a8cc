-- What an answer of the checker stands for.
use Rattle.std.specs.Prelude.{◌≡◌, Result, Ok, Err}
use Rattle.enc_base.specs.declared.refusal.Refusal.{Refusal}
use Rattle.enc_base.specs.declared.refusal.ReadFault.{ReadFault}
use Rattle.enc_base.specs.declared.refusal.ReadFault.TheVariants.{Memory, Refused}
use Rattle.enc_checker.specs.declared.judging.Checked.{Checked}
use Rattle.enc_checker.specs.Check.{Accepted, accepted}

-- what is accepted, or the refusal; want of memory tells nothing
abbrev pub Answers : Result Checked ReadFault → Result Accepted Refusal → Type 0
Answers (Ok c) judged = judged ≡ Ok (accepted c.delta c.pdb)
Answers (Err (Refused e)) judged = judged ≡ Err e
Answers (Err Memory) judged = Unit {0}
