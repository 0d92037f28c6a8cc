-- Elements that a loop reads, each by its number.
use Rattle.std.proofs.Common.{◌≡◌, ℕ, ◌+◌, ◌<◌, ◌≤◌, List, [], ◌∷◌, ◌++◌, length, get_or, drop, map, Option, Some, Result, Ok, Err, refl, sym, ap, ◌∙◌, append-nil, append_assoc}
use Rattle.std.proofs.lemmas.List.{drop_all}
use Rattle.serde_json.specs.Data.{Data}
use Rattle.enc_jobs.specs.declared.fault.JobFault.{JobFault}
use Rattle.enc_jobs.specs.declared.fault.Refused.{Refused}
use Rattle.enc_jobs.specs.declared.fault.Refused.TheVariants.{Memory, Form}
use Rattle.enc_jobs.specs.Outcome.{ReadsAs, GivesList, fault_of_element}
use Rattle.enc_jobs.specs.Lists.{next_number, with_numbered, read_in_turn}
use Rattle.enc_jobs.proofs.Loops.{front}

-- what is left to be read, behind what was read
abbrev pub follows : {B : Type 0} → List B → Result (List B) JobFault → Result (List B) JobFault
follows read (Ok rest) = Ok (read ++ rest)
follows read (Err fault) = Err fault

follows_nothing : {B : Type 0} (r : Result (List B) JobFault) → follows [] r ≡ r
follows_nothing (Ok rest) = refl
follows_nothing (Err fault) = refl

follows_more : {B : Type 0} (n : ℕ) (read : List B) (e : B) (r : Result (List B) JobFault) → follows read (with_numbered n (Some e) r) ≡ follows (read ++ e ∷ []) r
follows_more n read e (Ok rest) = ap Ok (sym (append_assoc read (e ∷ []) rest))
follows_more n read e (Err fault) = refl

numbered_front : {B : Type 0} (reader : Data → Option B) (n : ℕ) (d : Data) (ds : List Data) → read_in_turn reader n (d ∷ ds) ≡ with_numbered n (reader d) (read_in_turn reader (next_number n) ds)
unfolding read_in_turn
numbered_front reader n d ds = refl

numbered_none : {B : Type 0} (reader : Data → Option B) (n : ℕ) → read_in_turn reader n [] ≡ Ok []
unfolding read_in_turn
numbered_none reader n = refl

-- nothing is read yet
pub numbered_start : {V B : Type 0} (reader : Data → Option B) (v : V → Data) (xs : List V) (n : ℕ) → follows [] (read_in_turn reader n (map v (drop 0 xs))) ≡ read_in_turn reader n (map v xs)
numbered_start reader v xs n = follows_nothing (read_in_turn reader n (map v xs))

-- one element more
pub numbered_more : {V B : Type 0} (reader : Data → Option B) (v : V → Data) (xs : List V) (i n : ℕ) (x : V) (e : B) (read : List B) → i < length xs → x ≡ get_or xs i x → reader (v x) ≡ Some e → follows read (read_in_turn reader n (map v (drop i xs))) ≡ follows (read ++ e ∷ []) (read_in_turn reader (next_number n) (map v (drop (i + 1) xs)))
numbered_more reader v xs i n x e read h at is = rw (front xs i x h at, numbered_front reader n (v x) (map v (drop (i + 1) xs)), is) (follows_more n read e _)

-- an element that is refused
pub numbered_refused : {V B : Type 0} (reader : Data → Option B) (v : V → Data) (xs : List V) (i n : ℕ) (x : V) (read : List B) (e : Refused) (all : Result (List B) JobFault) → i < length xs → x ≡ get_or xs i x → ReadsAs (Err e) (reader (v x)) → follows read (read_in_turn reader n (map v (drop i xs))) ≡ all → GivesList {A = List B} (Err (fault_of_element n e)) all
numbered_refused reader v xs i n x read Memory all h at is whole = tt
numbered_refused reader v xs i n x read Form all h at is whole = sym whole ∙ rw (front xs i x h at, numbered_front reader n (v x) (map v (drop (i + 1) xs)), is) refl

-- all are read
pub numbered_done : {V B : Type 0} (reader : Data → Option B) (v : V → Data) (xs : List V) (i n : ℕ) (read : List B) (all : Result (List B) JobFault) → length xs ≤ i → follows read (read_in_turn reader n (map v (drop i xs))) ≡ all → all ≡ Ok read
numbered_done reader v xs i n read all h whole = sym whole ∙ rw (drop_all i xs h, numbered_none reader n) (ap Ok (append-nil read))

pub ruleset numbered_steps = (numbered_start, numbered_more, numbered_refused, numbered_done)
