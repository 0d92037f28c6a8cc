-- What is asked of a module: the value in a column of a row, or why there is none.
use Rattle.std.specs.Prelude.{ℕ, List, Option, Some, Result, Ok, Err, if◌then◌else◌}
use Rattle.std.specs.Borrow.{Bor}
use Rattle.enc_base.specs.declared.token.Token.{Token}
use Rattle.enc_plain.specs.Cell.{Cell, number, text, blob, guid, refer, Kind, numbers, texts, blobs, guids, references, kind_in}
use Rattle.enc_plain.specs.Module.{Module, has_row, cell_of}
use Rattle.enc_c.specs.declared.status.Status.{Status}
use Rattle.enc_c.specs.declared.status.Status.TheVariants.{Absent, Unlike}

-- an answer about a row that is there
abbrev pub of_row : {A : Type 0} → Module → Token → Result A Status → Result A Status
of_row m t answer = if has_row m t then answer else Err Absent

-- the number in a column of numbers
abbrev pub number_told : Option Kind → Option Cell → Result ℕ Status
number_told (Some numbers) (Some (number n)) = Ok n
number_told _ _ = Err Unlike

unfoldable pub asked_number : Module → Token → ℕ → Result ℕ Status
asked_number m t i = of_row m t (number_told (kind_in t.table i) (cell_of m t i))

-- the bytes of a text in a column of texts
abbrev pub text_told : Option Kind → Option Cell → Result (List ℕ) Status
text_told (Some texts) (Some (text bytes)) = Ok bytes
text_told _ _ = Err Unlike

unfoldable pub asked_text : Module → Token → ℕ → Result (List ℕ) Status
asked_text m t i = of_row m t (text_told (kind_in t.table i) (cell_of m t i))

-- those of a blob
abbrev pub blob_told : Option Kind → Option Cell → Result (List ℕ) Status
blob_told (Some blobs) (Some (blob bytes)) = Ok bytes
blob_told _ _ = Err Unlike

unfoldable pub asked_blob : Module → Token → ℕ → Result (List ℕ) Status
asked_blob m t i = of_row m t (blob_told (kind_in t.table i) (cell_of m t i))

-- the sixteen of a GUID
abbrev pub guid_told : Option Kind → Option Cell → Result (List ℕ) Status
guid_told (Some guids) (Some (guid bytes)) = Ok bytes
guid_told _ _ = Err Unlike

unfoldable pub asked_guid : Module → Token → ℕ → Result (List ℕ) Status
asked_guid m t i = of_row m t (guid_told (kind_in t.table i) (cell_of m t i))

-- the token in a column of an index; nil is one
abbrev pub token_told : Option Kind → Option Cell → Result Token Status
token_told (Some references) (Some (refer token)) = Ok token
token_told _ _ = Err Unlike

unfoldable pub asked_token : Module → Token → ℕ → Result Token Status
asked_token m t i = of_row m t (token_told (kind_in t.table i) (cell_of m t i))

-- bytes that are lent
abbrev pub lent : Result (Bor (List ℕ)) Status → Result (List ℕ) Status
lent (Ok bytes) = Ok bytes.now
lent (Err s) = Err s
