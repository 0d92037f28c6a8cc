-- What a reader and a writer of this crate answer, beside what the grammar and the spelling say.
use Rattle.std.specs.Prelude.{◌≡◌, ℕ, ◌++◌, List, Option, Some, None, option_map, Result, Ok, Err, Vec}
use Rattle.std.specs.declared.alloc.Global.{Global}
use Rattle.enc_seqpoints.specs.declared.point.Point.{Point}
use Rattle.enc_seqpoints.specs.declared.base.Record.{Record}
use Rattle.enc_seqpoints.specs.declared.point.PointFault.{PointFault}
use Rattle.enc_seqpoints.specs.declared.point.PointFault.TheVariants.{Memory, Grammar}
use Rattle.enc_seqpoints.specs.declared.point.WriteFault.{WriteFault}
use Rattle.enc_seqpoints.specs.declared.point.WriteFault.TheVariants.{NotWritable, Memory as WantOfMemory}
use Rattle.enc_seqpoints.specs.Grammar.{with_record}
use Rattle.enc_seqpoints.specs.Spelling.{preceded}

-- a refusal by the grammar says that nothing is read; one for want of memory says nothing
abbrev pub PointsRefused : {A : Type 0} → PointFault → Option A → Type 0
PointsRefused f o = f ≡ Grammar → o ≡ None

-- all that is read
abbrev pub GivesAll : {A : Type 0} → Result A PointFault → Option A → Type 0
GivesAll (Ok x) o = o ≡ Some x
GivesAll (Err f) o = PointsRefused f o

-- the same of a list
abbrev pub GivesPoints : Result (Vec Point Global) PointFault → Option (List Point) → Type 0
GivesPoints (Ok v) o = o ≡ Some v.items
GivesPoints (Err f) o = PointsRefused f o

-- what is read is put behind these
abbrev pub points_behind : List Point → Option (List Point) → Option (List Point)
points_behind points o = option_map (λ (more : List Point). points ++ more) o

-- the points of a record are put behind these
abbrev pub AddsRecord : Result (Vec Point Global) PointFault → List Point → Record → Type 0
AddsRecord (Ok v) points r = (more : List Point) → points ++ with_record r more ≡ v.items ++ more
AddsRecord (Err f) points r = f ≡ Memory

-- the bytes that are written, or the first point that can't be; for want of memory nothing is said
abbrev pub Writes : Result (Vec ℕ Global) WriteFault → Result (List ℕ) ℕ → Type 0
Writes (Ok v) said = said ≡ Ok v.items
Writes (Err WantOfMemory) said = Unit {0}
Writes (Err (NotWritable i)) said = said ≡ Err i

-- the same of bytes put behind others
abbrev pub WritesBehind : List ℕ → List ℕ → Result Unit WriteFault → Result (List ℕ) ℕ → Type 0
WritesBehind old new (Ok _) said = preceded 0 old said ≡ Ok new
WritesBehind old new (Err WantOfMemory) said = Unit {0}
WritesBehind old new (Err (NotWritable i)) said = said ≡ Err i
