-- What is told of the files and of the bytes outside, and when a fault may be answered.
use Rattle.std.specs.Prelude.{◌≡◌, ◌⊎◌, ℕ, ◌+◌, ◌-◌, ◌^◌, ◌≤◌, min, List, ◌++◌, take, Option, Result, IsErrOf}
use Rattle.std.specs.Option.{option_map}
use Rattle.std.specs.Ordering.{nat_cmp}
use Rattle.std.specs.Cmp.Lexicographic.{slice_cmp}
use Rattle.std.specs.FinMap.{FinMap, code, insert}
use Rattle.std.specs.Coded.{Coded, coded_ℕ, coded_list}

-- the files that a store tells: bytes by name
abbrev pub Files : Type 0
Files = FinMap (slice_cmp nat_cmp) (List ℕ)

-- a code of the files, by which proofs tell them apart
abbrev pub files_code : Coded Files
files_code = code (coded_list coded_ℕ) (coded_list coded_ℕ)

-- the told files with this name's bytes replaced
abbrev pub with_file : List ℕ → List ℕ → Option Files → Option Files
with_file name bytes told = option_map (λ (f : Files). insert f name bytes) told

-- the told files are as before, or this name holds a prefix of the new bytes
abbrev pub IsSavedInPart : List ℕ → List ℕ → Option Files → Option Files → Type 0
IsSavedInPart name bytes old new = (new ≡ old) ⊎ ((n : ℕ) × (new ≡ with_file name (take n bytes) old))

-- the told bytes with a piece at their end
abbrev pub with_piece : List ℕ → Option (List ℕ) → Option (List ℕ)
with_piece piece told = option_map (λ bytes. bytes ++ piece) told

-- a prefix of the piece stands at the end of the told bytes
abbrev pub GrowsInPart : List ℕ → Option (List ℕ) → Option (List ℕ) → Type 0
GrowsInPart piece old new = (n : ℕ) × (new ≡ with_piece (take n piece) old)

-- the count after one more, which stands still at its last value
abbrev pub risen : ℕ → ℕ
risen count = min (count + 1) (2 ^ 64 - 1)

-- the count is greater than before, or stands at its last value
abbrev pub Rose : ℕ → ℕ → Type 0
Rose before now = risen before ≤ now

-- a fault is told only where the count rose, and the count stands where none is told
pub record IsTold (fault : Type 0) (before now : ℕ) : Type 0 where
  pub later : before ≤ now
  pub rose : fault → Rose before now
  pub stands : (now ≡ before) ⊎ fault

-- the count of faults beside the result of a call: this error is the fault
abbrev pub HasCause : {T E : Type 0} → E → ℕ → ℕ → Result T E → Type 0
HasCause fault before now result = IsTold (IsErrOf result fault) before now
