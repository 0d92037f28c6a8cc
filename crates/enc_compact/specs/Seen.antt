-- What a moved module means as a view.
use Rattle.std.specs.Prelude.{ℕ, ◌+◌, ◌*◌, ◌/◌, ◌%◌, ◌^◌, List, Option, Some, None, option_map}
use Rattle.enc_base.specs.declared.token.Token.{Token}
use Rattle.enc_token_map.specs.Body.{body_moved}
use Rattle.enc_opcodes.specs.Body.{Body}
use Rattle.enc_row_order.specs.Orders.{Orders, moved_by, new_order, old_row}
use Rattle.enc_plain.specs.Cell.{Cell, blob}
use Rattle.enc_plain.specs.Debug.{PlainPdb}
use Rattle.enc_plain.specs.Module.{Module, cell_of}

-- a row's column as one number
abbrev pub place_number : Token → ℕ → ℕ
place_number t column = (t.table * 2 ^ 32 + t.row) * 2 ^ 8 + column

abbrev pub blob_in_cell : Option Cell → Option (List ℕ)
blob_in_cell (Some (blob bytes)) = Some bytes
blob_in_cell _ = None

-- the blob of the row's column that a number stands for: each cell is a place of its own
unfoldable pub blob_numbered : Module → ℕ → Option (List ℕ)
blob_numbered m n = blob_in_cell (cell_of m (record { table = n / 2 ^ 40; row = n / 2 ^ 8 % 2 ^ 32 }) (n % 2 ^ 8))

-- the body at a place, with its tokens moved
unfoldable pub bodies_moved : Module → (ℕ → Option Body) → ℕ → Option Body
bodies_moved m places n = option_map (body_moved (moved_by (new_order m))) (places n)

-- where the row of a method stood in these orders
abbrev pub old_by : Orders → Token → Token
old_by orders t = record { table = t.table; row = old_row (orders t.table) t.row }

-- what is known of methods whose rows have these orders
abbrev pub pdb_by : Orders → PlainPdb → PlainPdb
pdb_by orders p t = p (old_by orders t)
