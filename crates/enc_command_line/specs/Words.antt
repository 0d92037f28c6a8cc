-- What a list of words asks for: a row of the command table, or none.
use Rattle.std.specs.Prelude.{ℕ, ◌-◌, ◌^◌, Bool, ◌&&◌, List, [], ◌∷◌, length, map, Option, Some, None, option_map, Result, Ok, Err, nat_le, if◌then◌else◌, codes, bytes_eq, String, string_bytes}
use Rattle.std.specs.List.{list_all}
use Rattle.std.specs.Int.{w32, from_be_bytes}
use Rattle.std.specs.Str.Parse.{digits_value}
use Rattle.std.specs.declared.alloc.Global.{Global}
use Rattle.hex.specs.Hex.{decode_sized}
use Rattle.hex.specs.declared.error.FromHexError.{FromHexError}
use Rattle.enc_base.specs.Token.{token_of}
pub use Rattle.enc_jobs.specs.Scripts.{is_name_byte, is_name}
use Rattle.enc_base.specs.declared.token.Token.{Token}

-- a number, and the digits that say it
pub record Numeral : Type 0 where
  pub digits : List ℕ
  pub value : ℕ

-- what a command asks for: a row of a base with deltas, their listing, whether all are accepted, the one module that
-- has all edits, under a name of its own, the same in the order of an ordinary module, one delta that stands for the
-- last two, the delta of an edit list, in a file, that follows them, what a script prints over a base, or a generated
-- case by its two numbers
pub data Job : Type 0 where
  show : List ℕ → Token → List (List ℕ) → Job
  list : List ℕ → List (List ℕ) → Job
  check : List ℕ → List (List ℕ) → Job
  apply : List ℕ → List ℕ → List (List ℕ) → Job
  compact : List ℕ → List ℕ → List (List ℕ) → Job
  merge : List ℕ → List ℕ → List (List ℕ) → Job
  write : List ℕ → List ℕ → List ℕ → List (List ℕ) → Job
  run : List ℕ → List ℕ → Job
  gen : Numeral → Numeral → List ℕ → Job

abbrev pub token_with : Result (List ℕ) FromHexError → Option Token
token_with (Ok bytes) = Some (token_of (from_be_bytes w32 bytes))
token_with (Err e) = None

-- the token of eight hexadecimal digits of either case
unfoldable pub token_of_word : List ℕ → Option Token
token_of_word word = token_with (decode_sized word 4)

-- a base and deltas, each a name
unfoldable pub are_names : List ℕ → List (List ℕ) → Bool
are_names base deltas = is_name base && list_all is_name deltas

-- `show BASE TOKEN DELTA..`
abbrev pub show_of : List (List ℕ) → Option Job
show_of (base ∷ token ∷ deltas) =
    if are_names base deltas then option_map (λ t. show base t deltas) (token_of_word token) else None
show_of _ = None

-- `list BASE DELTA..`
abbrev pub list_of : List (List ℕ) → Option Job
list_of (base ∷ deltas) = if are_names base deltas then Some (list base deltas) else None
list_of [] = None

-- `check BASE DELTA..`
abbrev pub check_of : List (List ℕ) → Option Job
check_of (base ∷ deltas) = if are_names base deltas then Some (check base deltas) else None
check_of [] = None

-- `apply BASE OUT DELTA..`
abbrev pub apply_of : List (List ℕ) → Option Job
apply_of (base ∷ out ∷ deltas) = if are_names base (out ∷ deltas) then Some (apply base out deltas) else None
apply_of _ = None

-- `compact BASE OUT DELTA..`
abbrev pub compact_of : List (List ℕ) → Option Job
compact_of (base ∷ out ∷ deltas) = if are_names base (out ∷ deltas) then Some (compact base out deltas) else None
compact_of _ = None

-- `merge BASE OUT DELTA DELTA ..`, with two deltas or more
abbrev pub merge_of : List (List ℕ) → Option Job
merge_of (base ∷ out ∷ first ∷ second ∷ deltas) =
    if are_names base (out ∷ first ∷ second ∷ deltas) then Some (merge base out (first ∷ second ∷ deltas)) else None
merge_of _ = None

-- `write BASE EDITS OUT DELTA..`
abbrev pub write_of : List (List ℕ) → Option Job
write_of (base ∷ edits ∷ out ∷ deltas) =
    if are_names base (edits ∷ out ∷ deltas) then Some (write base edits out deltas) else None
write_of _ = None

-- `run BASE SCRIPT`
abbrev pub run_of : List (List ℕ) → Option Job
run_of (base ∷ script ∷ []) = if is_name base && is_name script then Some (run base script) else None
run_of _ = None

-- a decimal digit
abbrev pub is_digit : ℕ → Bool
is_digit b = nat_le 0x30 b && nat_le b 0x39

-- 1 to so many decimal digits that say a number up to a bound
unfoldable pub numeral_of : ℕ → ℕ → List ℕ → Option Numeral
numeral_of most bound word =
    if nat_le 1 (length word) && nat_le (length word) most && list_all is_digit word
    && nat_le (digits_value 10 word) bound
    then Some (record { digits = word; value = digits_value 10 word }) else None

abbrev pub gen_with : List ℕ → Option Numeral → Option Numeral → Option Job
gen_with out (Some start) (Some count) = if is_name out then Some (gen start count out) else None
gen_with out _ _ = None

-- `gen START COUNT OUT`
abbrev pub gen_of : List (List ℕ) → Option Job
gen_of (start ∷ count ∷ out ∷ []) = gen_with out (numeral_of 20 (2 ^ 64 - 1) start) (numeral_of 2 64 count)
gen_of _ = None

-- the row of the command table that the words are
abbrev pub job_of : List (List ℕ) → Option Job
job_of (name ∷ words) =
    if bytes_eq name (codes "show") then show_of words
    else if bytes_eq name (codes "list") then list_of words
    else if bytes_eq name (codes "check") then check_of words
    else if bytes_eq name (codes "apply") then apply_of words
    else if bytes_eq name (codes "write") then write_of words
    else if bytes_eq name (codes "run") then run_of words
    else if bytes_eq name (codes "gen") then gen_of words
    else if bytes_eq name (codes "compact") then compact_of words
    else if bytes_eq name (codes "merge") then merge_of words
    else None
job_of [] = None

-- the words as lists of bytes
abbrev pub texts : List (String Global) → List (List ℕ)
texts words = map (λ (w : String Global). string_bytes w) words
