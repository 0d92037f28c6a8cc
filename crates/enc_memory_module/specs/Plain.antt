-- A plain module in memory.
use Rattle.std.specs.Prelude.{ℕ, ◌+◌, ◌*◌, ◌/◌, ◌%◌, ◌^◌, List, Option, Some, None}
use Rattle.enc_base.specs.declared.token.Token.{Token}
use Rattle.enc_opcodes.specs.Body.{Body}
use Rattle.enc_plain.specs.Cell.{Cell, blob, body}
use Rattle.enc_plain.specs.Module.{Module, cell_of}
use Rattle.enc_base.specs.Tables.{method_def}

-- a module, and the bytes of the `#US` in which the code of its bodies has its user texts
pub record InMemory : Type 0 where
  pub plain : Module
  pub users : List ℕ

-- the number of a cell
abbrev pub cell_number : Token → ℕ → ℕ
cell_number t i = t.row * 2 ^ 16 + t.table * 2 ^ 8 + i

-- the bytes of a blob
abbrev pub blob_said : Option Cell → Option (List ℕ)
blob_said (Some (blob bytes)) = Some bytes
blob_said _ = None

-- the blob in the cell of a number
unfoldable pub blob_in : Module → ℕ → Option (List ℕ)
blob_in m n = blob_said (cell_of m (record { table = n / 2 ^ 8 % 2 ^ 8; row = n / 2 ^ 16 }) (n % 2 ^ 8))

-- the body that a method's cell has
abbrev pub body_in_cell : Option Cell → Option Body
body_in_cell (Some (body there)) = there
body_in_cell _ = None

-- the body of the method of a row
unfoldable pub body_at_row : Module → ℕ → Option Body
body_at_row m row = body_in_cell (cell_of m (record { table = method_def; row = row }) 0)
