-- The plain module: for each table its rows, each a list of cells and its children (ECMA-335 II.22). It knows no
-- heaps, no offsets, no files.
use Rattle.std.specs.Prelude.{ℕ, zero, suc, Bool, ◌&&◌, List, [], length, position, Option, Some, None, option_map, option_and_then, nat_lt, nat_le, ◌==◌, if◌then◌else◌, slice_get}
use Rattle.std.specs.List.{list_any}
use Rattle.enc_base.specs.Token.{nth_row}
use Rattle.enc_base.specs.declared.token.Token.{Token}
use Rattle.enc_schema.specs.Schema.{list_at}
use Rattle.enc_schema.specs.Children.{is_child_table, owner_table, run_index}
use Rattle.enc_plain.specs.Cell.{Cell}

-- a row: the cells of its columns in order, and for each of its runs the rows of its children in order of attachment
pub record Row : Type 0 where
  pub cells : List Cell
  pub kids : List (List ℕ)

-- a module: the rows of each table, by the table's number, the bytes of its managed resources, and the number of its
-- entry point (II.25.3.3)
pub record Module : Type 0 where
  pub tables : List (List Row)
  pub resources : List ℕ
  pub entry : ℕ

abbrev pub rows_in : Module → ℕ → List Row
rows_in m table = list_at m.tables table

-- the n-th of the rows from 1; row 0 is none
abbrev pub row_at : List Row → ℕ → Option Row
row_at rows zero = None
row_at rows (suc i) = slice_get rows i

-- the row that a token names
unfoldable pub row_of : Module → Token → Option Row
row_of m token = row_at (rows_in m token.table) token.row

-- the cells of the row that a token names
abbrev pub cells_of : Module → Token → Option (List Cell)
cells_of m token = option_map (λ (r : Row). r.cells) (row_of m token)

-- whether the token names a row of the module
unfoldable pub has_row : Module → Token → Bool
has_row m token = nat_lt 0 token.row && nat_le token.row (length (rows_in m token.table))

-- the cell in a column of the row that a token names
unfoldable pub cell_of : Module → Token → ℕ → Option Cell
cell_of m token i = option_and_then (λ (r : Row). slice_get r.cells i) (row_of m token)

-- the children of a row in a child table
abbrev pub kids_at : Row → ℕ → List ℕ
kids_at r child = list_at r.kids (run_index child)

abbrev pub kids_with : Option Row → ℕ → List ℕ
kids_with (Some r) child = kids_at r child
kids_with None child = []

-- the children that a token's row owns in a child table, in order of attachment; in other tables there are none
unfoldable pub kids_of : Module → Token → ℕ → List ℕ
kids_of m owner child = if is_child_table child && owner.table == owner_table child
    then kids_with (row_of m owner) child else []

-- the row has this child
abbrev pub has_kid : Token → Row → Bool
has_kid child r = list_any (λ (k : ℕ). k == child.row) (kids_at r child.table)

-- the owner of a child row: the first row of its owners' table that has it
unfoldable pub owner_of : Module → Token → Option Token
owner_of m child = option_map (nth_row (owner_table child.table))
    (position (has_kid child) (rows_in m (owner_table child.table)))
