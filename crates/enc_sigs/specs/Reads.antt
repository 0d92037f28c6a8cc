-- What a reader of this crate answers, beside what the grammar says.
use Rattle.std.specs.Prelude.{◌≡◌, ℕ, List, Option, Some, None, option_map, ◌++◌}
use Rattle.std.specs.Prelude.{Result, Ok, Err, Vec}
use Rattle.std.specs.declared.alloc.Global.{Global}
use Rattle.std.specs.Borrow.{Bor}
use Rattle.enc_sigs.specs.declared.kind.SigFault.{SigFault}
use Rattle.enc_sigs.specs.declared.kind.SigFault.TheVariants.{Grammar}
use Rattle.enc_sigs.specs.Tree.{Tree}

-- a refusal by the grammar says that nothing is read; one for want of memory says nothing
abbrev pub Refused : {A : Type 0} → SigFault → Option A → Type 0
Refused f o = f ≡ Grammar → o ≡ None

-- what is read, and the bytes behind it
abbrev pub Reads : {A : Type 0} → Result (A × Bor (List ℕ)) SigFault → Option (A × List ℕ) → Type 0
Reads (Ok p) o = o ≡ Some (p.0, p.1.now)
Reads (Err f) o = Refused f o

-- all that is read
abbrev pub Gives : {A : Type 0} → Result A SigFault → Option A → Type 0
Gives (Ok x) o = o ≡ Some x
Gives (Err f) o = Refused f o

-- what is read is put behind these
abbrev pub behind : List Tree → Option (List Tree × List ℕ) → Option (List Tree × List ℕ)
behind ts o = option_map (λ (p : List Tree × List ℕ). (ts ++ p.0, p.1)) o

-- the same of a list
abbrev pub AreRead : Result (Vec Tree Global × Bor (List ℕ)) SigFault → Option (List Tree × List ℕ) → Type 0
AreRead (Ok p) o = o ≡ Some (p.0.items, p.1.now)
AreRead (Err f) o = Refused f o

-- what is left behind what is read
abbrev pub left_after : {A : Type 0} → Option (A × List ℕ) → Option (List ℕ)
left_after o = option_map (λ p. p.1) o

-- the element of the type that is read, and what is left behind it
abbrev pub element_front : Option (Tree × List ℕ) → Option (ℕ × List ℕ)
element_front o = option_map (λ (p : Tree × List ℕ). (p.0.element, p.1)) o
