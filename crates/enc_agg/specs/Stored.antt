-- The code that stands in the files for a method.
use Rattle.std.specs.Prelude.{ℕ, List, [], ◌∷◌, Option, Some, None}
use Rattle.enc_base.specs.declared.token.Token.{Token}
use Rattle.enc_opcodes.specs.Body.{Code}
use Rattle.enc_rows.specs.Source.{Source, raw_in}
use Rattle.enc_schema.specs.Columns.{method_def_rva}
use Rattle.enc_plain.specs.Bodies.{code_loaded}
use Rattle.enc_delta.specs.Delta.{listed, place_in}

-- the code at the place that a row of a file has (ECMA-335 II.22.26)
abbrev pub code_of_row : Source → ℕ → ℕ → Option Code
code_of_row s table row = code_loaded s.loaded (raw_in s (record { table = table; row = row }) method_def_rva)

-- where a delta's map has the method, and else what was before
abbrev pub code_or : Source → ℕ → Option ℕ → Option Code → Option Code
code_or d table (Some row) before = code_of_row d table row
code_or d table None before = before

-- the code that stands for a method after deltas, the newest first: that of the newest whose EncMap lists it, and
-- else the base's
unfoldable pub code_stored : Source → List Source → Token → Option Code
code_stored base [] method = code_of_row base method.table method.row
code_stored base (d ∷ older) method =
    code_or d method.table (place_in (listed d) method) (code_stored base older method)
