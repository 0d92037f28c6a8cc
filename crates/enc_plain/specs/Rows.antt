-- What stands in the columns of rows that may not be there.
use Rattle.std.specs.Prelude.{◌≡◌, ℕ, List, [], Option, Some, None, option_and_then, slice_get}
use Rattle.enc_base.specs.Token.{nil}
use Rattle.enc_base.specs.declared.token.Token.{Token}
use Rattle.enc_plain.specs.Cell.{Cell, number, text, blob, refer}

-- rows by their tokens: the cells of each, None where a token names no row
abbrev pub Rows : Type 0
Rows = Token → Option (List Cell)

-- the cell in a row's column
abbrev pub cell_at : Rows → Token → ℕ → Option Cell
cell_at rows t i = option_and_then (λ (cells : List Cell). slice_get cells i) (rows t)

-- the number of a cell, 0 where it is none
abbrev pub number_of_cell : Option Cell → ℕ
number_of_cell (Some (number n)) = n
number_of_cell _ = 0

-- the bytes of a text or of a blob, none where it is neither
abbrev pub bytes_of_cell : Option Cell → List ℕ
bytes_of_cell (Some (text bytes)) = bytes
bytes_of_cell (Some (blob bytes)) = bytes
bytes_of_cell _ = []

-- the token of a cell, nil where it is none
abbrev pub token_of_cell : Option Cell → Token
token_of_cell (Some (refer t)) = t
token_of_cell _ = nil

-- the same of a row's column
unfoldable pub number_at : Rows → Token → ℕ → ℕ
number_at rows t i = number_of_cell (cell_at rows t i)

unfoldable pub bytes_at : Rows → Token → ℕ → List ℕ
bytes_at rows t i = bytes_of_cell (cell_at rows t i)

unfoldable pub token_at : Rows → Token → ℕ → Token
token_at rows t i = token_of_cell (cell_at rows t i)

-- bytes are those that are stored at a place; where there is no place, there are none
abbrev pub AreStoredAt : (ℕ → Option (List ℕ)) → Option ℕ → List ℕ → Type 0
AreStoredAt stored None bytes = bytes ≡ []
AreStoredAt stored (Some place) bytes = stored place ≡ Some bytes
