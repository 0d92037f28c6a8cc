-- The rows of a delta, and the rows that are there after it.
use Rattle.std.specs.Prelude.{ℕ, List, map, Option, option_map, option_and_then, unwrap_or}
use Rattle.enc_base.specs.Order.{or_else}
use Rattle.enc_base.specs.declared.token.Token.{Token}
use Rattle.enc_schema.specs.declared.column.Column.{Column}
use Rattle.enc_schema.specs.Schema.{column_in}
use Rattle.enc_rows.specs.Sums.{below}
use Rattle.enc_rows.specs.Source.{Source, raw_in}
use Rattle.enc_plain.specs.Cell.{Cell, number, cell_count}
use Rattle.enc_plain.specs.Module.{cells_of}
use Rattle.enc_plain.specs.Rows.{Rows}
use Rattle.enc_plain.specs.Chain.{Chain}
use Rattle.enc_plain.specs.Reading.{cell_with}
use Rattle.enc_delta.specs.Delta.{listed, place_in}
use Rattle.enc_delta.specs.Rules.{reading_after}

-- the cell in a column of a delta's row, read in all heaps up to the delta's, and in its own code
unfoldable pub cell_after : Chain → Source → Token → ℕ → Option Cell
cell_after c s row i = option_and_then
    (λ (column : Column). cell_with (reading_after c s) row i column (raw_in s row i)) (column_in row.table i)

-- the cells of a delta's row
abbrev pub cells_after : Chain → Source → Token → List Cell
cells_after c s row = map (λ i. unwrap_or (cell_after c s row i) (number 0)) (below (cell_count row.table))

-- the delta's row for a token: the k-th token of a table goes with the table's k-th row
abbrev pub own_row : Source → Token → Token
own_row s token = record { table = token.table; row = unwrap_or (place_in (listed s) token) 0 }

-- the cells that the delta's row gives a token of EncMap
abbrev pub own_cells : Chain → Source → Token → Option (List Cell)
own_cells c s token = option_map (λ k. cells_after c s (record { table = token.table; row = k }))
    (place_in (listed s) token)

-- the rows before a delta
abbrev pub rows_of_chain : Chain → Rows
rows_of_chain c = cells_of c.plain

-- the rows after a delta: its own for the tokens of its EncMap, and else those before
unfoldable pub rows_after : Chain → Source → Rows
rows_after c s token = or_else (own_cells c s token) (cells_of c.plain token)
