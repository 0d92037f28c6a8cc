-- Rows with the numbers by which they go.
use Rattle.std.specs.Prelude.{ℕ, ◌+◌, List, get_or, length, map}
use Rattle.enc_plain.specs.Module.{Module}
use Rattle.enc_rows.specs.Sums.{below}
use Rattle.enc_row_order.specs.Orders.{Orders, order_key, standing_rows}
use Rattle.enc_row_order.specs.declared.sorting.KeyedRow.{KeyedRow}

abbrev pub sorted_key : KeyedRow → ℕ
sorted_key e = e.key

abbrev pub entry_row : KeyedRow → ℕ
entry_row e = e.row

-- a row with its number
abbrev pub numbered_row : (ℕ → ℕ) → ℕ → KeyedRow
numbered_row key row = record { key = key row; row = row }

-- the rows of a table with the numbers by which they go
abbrev pub entries_by : Orders → Module → ℕ → List KeyedRow
entries_by orders m table = map (numbered_row (order_key orders m table)) (standing_rows m table)

-- rows from 1 with these numbers
unfoldable pub entries_numbered : List ℕ → List KeyedRow
entries_numbered keys = map (λ i. record { key = get_or keys i 0; row = i + 1 }) (below (length keys))
