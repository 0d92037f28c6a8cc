-- Lists that are read element by element.
use Rattle.std.specs.Prelude.{ℕ, ◌+◌, ◌-◌, ◌^◌, min, List, [], ◌∷◌, Option, Some, None, option_map, Result, Ok, Err}
use Rattle.enc_jobs.specs.declared.fault.JobFault.{JobFault}
use Rattle.enc_jobs.specs.declared.fault.JobFault.TheVariants.{J2}

-- what is read of the first and of the rest
abbrev pub with_first : {B : Type 0} → Option B → Option (List B) → Option (List B)
with_first None rest = None
with_first (Some y) rest = option_map (λ ys. y ∷ ys) rest

-- what a reader reads of each element, none where it reads nothing of one
unfoldable pub every : {A B : Type 0} → (A → Option B) → List A → Option (List B)
every reader [] = Some []
every reader (x ∷ xs) = with_first (reader x) (every reader xs)

-- the number behind one, up to 2^32 - 1
abbrev pub next_number : ℕ → ℕ
next_number n = min (n + 1) (2 ^ 32 - 1)

-- an element, or its number where it isn't one, before what follows it
abbrev pub with_numbered : {B : Type 0} → ℕ → Option B → Result (List B) JobFault → Result (List B) JobFault
with_numbered n None rest = Err (J2 n)
with_numbered n (Some y) (Ok rest) = Ok (y ∷ rest)
with_numbered n (Some y) (Err fault) = Err fault

-- what a reader reads of each element, the first with this number, or the number of the first of which it reads nothing
unfoldable pub read_in_turn : {A B : Type 0} → (A → Option B) → ℕ → List A → Result (List B) JobFault
read_in_turn reader n [] = Ok []
read_in_turn reader n (x ∷ xs) = with_numbered n (reader x) (read_in_turn reader (next_number n) xs)
