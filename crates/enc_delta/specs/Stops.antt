-- For the contracts of private functions: what the answer of some rules says, and the parts of their list that are
-- asked by one function each.
use Rattle.std.specs.Prelude.{◌≡◌, take, drop, Option, Some, None, Result, Ok, Err}
use Rattle.enc_base.specs.declared.refusal.Refusal.{Refusal}
use Rattle.enc_rows.specs.Source.{Source}
use Rattle.enc_plain.specs.Chain.{Chain}
use Rattle.enc_delta.specs.Judged.{rules, first_of}
use Rattle.enc_delta.specs.declared.rules.RuleFault.{RuleFault}
use Rattle.enc_delta.specs.declared.rules.RuleFault.TheVariants.{Memory, Broken}

-- no rule is broken, or the first broken one is told; want of memory tells nothing
abbrev pub TellsFirst : Result (Unit {0}) RuleFault → Option Refusal → Type 0
TellsFirst (Ok u) first = first ≡ None
TellsFirst (Err (Broken refusal)) first = first ≡ Some refusal
TellsFirst (Err Memory) first = Unit {0}

-- the first broken rule of the Module row and of the heaps, 1 to 5
unfoldable pub first_identity : Chain → Source → Option Refusal
first_identity c s = first_of (take 5 rules) c s

-- of EncMap and EncLog, 6 to 11
unfoldable pub first_lists : Chain → Source → Option Refusal
first_lists c s = first_of (take 6 (drop 5 rules)) c s

-- of the cells of rows, 12 to 15
unfoldable pub first_cells : Chain → Source → Option Refusal
first_cells c s = first_of (take 4 (drop 11 rules)) c s

-- of bodies and of new members, 16 to 20
unfoldable pub first_members : Chain → Source → Option Refusal
first_members c s = first_of (take 5 (drop 15 rules)) c s

-- of signatures, and of how many deltas and rows there may be, 21 to 24
unfoldable pub first_signatures : Chain → Source → Option Refusal
first_signatures c s = first_of (drop 20 rules) c s
