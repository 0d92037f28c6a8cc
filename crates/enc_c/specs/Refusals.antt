-- A refusal by numbers, and its words.
use Rattle.std.specs.Prelude.{◌≡◌, ℕ, List, ◌∷◌, [], ◌++◌, Option, Some, None, option_map, ◌==◌, if◌then◌else◌}
use Rattle.enc_base.specs.declared.refusal.Code.{Code}
use Rattle.enc_base.specs.declared.refusal.Code.TheVariants.{F, E}
use Rattle.enc_base.specs.declared.refusal.Place.{Place}
use Rattle.enc_base.specs.declared.refusal.Place.TheVariants as place
use Rattle.enc_base.specs.declared.refusal.StreamName.{StreamName}
use Rattle.enc_base.specs.declared.refusal.StreamName.TheVariants as stream
use Rattle.enc_base.specs.declared.refusal.Refusal.{Refusal}
use Rattle.enc_text.specs.Text.{refusal_code_text, place_text}
use Rattle.enc_c.specs.declared.refusal.RefusalNumbers.{RefusalNumbers}

-- the letter of a rule, as a byte of ASCII, and its number
abbrev pub letter_of : Code → ℕ
letter_of (F n) = 0x46
letter_of (E n) = 0x45

abbrev pub rule_of : Code → ℕ
rule_of (F n) = n
rule_of (E n) = n

-- the streams by numbers
abbrev pub number_of_stream : StreamName → ℕ
number_of_stream stream.Strings = 0
number_of_stream stream.Users = 1
number_of_stream stream.Blobs = 2
number_of_stream stream.Guids = 3
number_of_stream stream.Compressed = 4
number_of_stream stream.Uncompressed = 5
number_of_stream stream.Pdb = 6
number_of_stream stream.Jtd = 7

-- a place by its kind, and the numbers that it has; the others are 0
abbrev pub placed_numbers : Code → ℕ → ℕ → ℕ → ℕ → ℕ → ℕ → RefusalNumbers
placed_numbers code place stream table column row entry =
    record {
      letter = letter_of code;
      rule = rule_of code;
      place = place;
      stream = stream;
      table = table;
      column = column;
      row = row;
      entry = entry;
    }

abbrev pub numbers_at : Code → Place → RefusalNumbers
numbers_at code place.Root = placed_numbers code 0 0 0 0 0 0
numbers_at code (place.Stream name) = placed_numbers code 1 (number_of_stream name) 0 0 0 0
numbers_at code place.Headers = placed_numbers code 2 0 0 0 0 0
numbers_at code place.Cli = placed_numbers code 3 0 0 0 0 0
numbers_at code place.Metadata = placed_numbers code 4 0 0 0 0 0
numbers_at code place.Resources = placed_numbers code 5 0 0 0 0 0
numbers_at code place.Debug = placed_numbers code 6 0 0 0 0 0
numbers_at code place.Tables = placed_numbers code 7 0 0 0 0 0
numbers_at code place.Pdb = placed_numbers code 8 0 0 0 0 0
numbers_at code (place.Row token) = placed_numbers code 9 0 token.table 0 token.row 0
numbers_at code (place.Cell token column) = placed_numbers code 10 0 token.table column token.row 0
numbers_at code (place.Owner token) = placed_numbers code 11 0 token.table 0 token.row 0
numbers_at code (place.Log entry) = placed_numbers code 12 0 0 0 0 entry

unfoldable pub numbers_of : Refusal → RefusalNumbers
numbers_of e = numbers_at e.code e.place

-- what numbers say
abbrev pub code_by : ℕ → ℕ → Option Code
code_by letter rule = if letter == 0x46 then Some (F rule) else if letter == 0x45 then Some (E rule) else None

abbrev pub stream_by : ℕ → Option StreamName
stream_by n =
    if n == 0 then Some stream.Strings else if n == 1 then Some stream.Users else if n == 2 then Some stream.Blobs
    else if n == 3 then Some stream.Guids
    else if n == 4 then Some stream.Compressed else if n == 5 then Some stream.Uncompressed else if n == 6
    then Some stream.Pdb
    else if n == 7 then Some stream.Jtd else None

abbrev pub place_by : RefusalNumbers → Option Place
place_by n =
    if n.place == 0 then Some place.Root else if n.place == 1
    then option_map (λ (name : StreamName). place.Stream name) (stream_by n.stream)
    else if n.place == 2 then Some place.Headers else if n.place == 3 then Some place.Cli else if n.place == 4
    then Some place.Metadata
    else if n.place == 5 then Some place.Resources else if n.place == 6 then Some place.Debug else if n.place == 7
    then Some place.Tables
    else if n.place == 8 then Some place.Pdb else if n.place == 9
    then Some (place.Row (record { table = n.table; row = n.row }))
    else if n.place == 10 then Some (place.Cell (record { table = n.table; row = n.row }) n.column)
    else if n.place == 11 then Some (place.Owner (record { table = n.table; row = n.row }))
    else if n.place == 12 then Some (place.Log n.entry) else None

abbrev pub refusal_with : Option Code → Option Place → Option Refusal
refusal_with (Some code) (Some place) = Some (record { code = code; place = place })
refusal_with _ _ = None

unfoldable pub refusal_by : RefusalNumbers → Option Refusal
refusal_by n = refusal_with (code_by n.letter n.rule) (place_by n)

-- what the numbers of a refusal say is that refusal
abbrev pub NumbersAreTheRefusals : Type 0
NumbersAreTheRefusals = (e : Refusal) → refusal_by (numbers_of e) ≡ Some e

-- the words of a refusal: its rule and its place, with the end of a line
unfoldable pub words_of : Refusal → List ℕ
words_of e = refusal_code_text e.code ++ 0x20 ∷ place_text e.place ++ 0x0a ∷ []
