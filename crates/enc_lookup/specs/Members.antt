-- Members by their names (ECMA-335 II.22.15, II.22.26, II.22.33, II.22.13, II.22.34).
use Rattle.std.specs.Prelude.{ℕ, zero, suc, Bool, not, ◌&&◌, ◌==◌, List, [], ◌++◌, bytes_eq, filter, if◌then◌else◌}
use Rattle.enc_base.specs.Token.{is_token, nth_row}
use Rattle.enc_base.specs.declared.token.Token.{Token}
use Rattle.enc_plain.specs.Module.{Module, cells_of, kids_of}
use Rattle.enc_plain.specs.Rows.{bytes_at, token_at}
use Rattle.enc_plain.specs.Sound.{row_count}
use Rattle.enc_schema.specs.Children.{is_child_table, owner_table}
use Rattle.enc_schema.specs.Columns as columns
use Rattle.enc_base.specs.Tables as tables

-- the column of a child table that has the name
abbrev pub column_of_name : ℕ → ℕ
column_of_name table =
    if table == tables.field then columns.field_name
    else if table == tables.method_def then columns.method_def_name
    else if table == tables.param then columns.param_name
    else if table == tables.event then columns.event_name
    else columns.property_name

-- a row of a child table has this name
unfoldable pub is_called : Module → ℕ → List ℕ → ℕ → Bool
is_called m table name row = bytes_eq
    (bytes_at (cells_of m) (record { table = table; row = row }) (column_of_name table)) name

-- the children of a row with a name, in order of attachment
unfoldable pub kids_named : Module → ℕ → List ℕ → Token → List ℕ
kids_named m table name owner = filter (is_called m table name) (kids_of m owner table)

-- a type has rows of this table by way of a map: Event and Property (II.22.12, II.22.35)
abbrev pub owned_by : ℕ → Bool
owned_by table = is_child_table table
    && (not (owner_table table == tables.method_def) && not (owner_table table == tables.type_def))

-- the children with a name of the n-th row of the map, n from 0, where it names the type in its first column
unfoldable pub named_behind : Module → ℕ → List ℕ → Token → ℕ → List ℕ
named_behind m table name type n =
    if is_token (token_at (cells_of m) (nth_row (owner_table table) n) 0) type
    then kids_named m table name (nth_row (owner_table table) n) else []

-- and of the first n rows of the map
unfoldable pub named_upto : Module → ℕ → List ℕ → Token → ℕ → List ℕ
named_upto m table name type zero = []
named_upto m table name type (suc n) = named_upto m table name type n ++ named_behind m table name type n

-- the rows of a child table with a name that belong to a row: its own children; and to a type those of each row of
-- the map that names it
unfoldable pub members_named : Module → Token → ℕ → List ℕ → List ℕ
members_named m owner table name =
    if is_child_table table then
    (if owner.table == owner_table table then kids_named m table name owner
    else if owned_by table && owner.table == tables.type_def
    then named_upto m table name owner (row_count m (owner_table table))
    else [])
    else []
