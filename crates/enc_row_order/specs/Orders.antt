-- The order in which the rows of an ordinary module stand: children behind one another in the order of their owners,
-- and tables that loaders search by
-- halves in the order of their keys (ECMA-335 II.22, II.24.2.6).
use Rattle.std.specs.Prelude.{ℕ, zero, suc, ◌+◌, ◌*◌, ◌^◌, not, ◌&&◌, ◌||◌, ◌==◌, List, [], ◌∷◌, map, flat_map, length, Bool, false, Option, Some, nat_lt}
use Rattle.std.specs.Prelude.{slice_get, unwrap_or, if◌then◌else◌}
use Rattle.std.specs.List.{position}
use Rattle.std.specs.Option.{option_map_or}
use Rattle.enc_base.specs.declared.token.Token.{Token}
use Rattle.enc_plain.specs.Module.{Module, cells_of, kids_of}
use Rattle.enc_plain.specs.Rows.{number_at, token_at}
use Rattle.enc_plain.specs.Sound.{row_count}
use Rattle.enc_rows.specs.Sums.{below}
use Rattle.enc_schema.specs.declared.column.Coding.{Coding}
use Rattle.enc_schema.specs.declared.column.Column.{Column}
use Rattle.enc_schema.specs.declared.column.Column.TheVariants.{Num16, Index, Coded}
use Rattle.enc_schema.specs.Children.{owner_table}
use Rattle.enc_schema.specs.Coding.{tables_of, tag_bits}
use Rattle.enc_schema.specs.Schema.{column_in}
use Rattle.enc_base.specs.Tables as tables
use Rattle.enc_row_order.specs.Depth.{depth}
use Rattle.enc_row_order.specs.Sorted.{sorted_by}

-- for each table its rows in a new order, each once
abbrev pub Orders : Type 0
Orders = ℕ → List ℕ

-- where a row stands in a list behind so many others, from 1; what isn't in it stays
unfoldable pub place_behind : ℕ → List ℕ → ℕ → ℕ
place_behind before [] row = row
place_behind before (r ∷ rest) row = if r == row then before + 1 else place_behind (before + 1) rest row

-- where a row stands in an order
unfoldable pub place_in_order : List ℕ → ℕ → ℕ
place_in_order rows row = place_behind 0 rows row

-- which row stands at a place of an order, from 1; past its end the place is the row
unfoldable pub old_row : List ℕ → ℕ → ℕ
old_row rows zero = zero
old_row rows (suc i) = unwrap_or (slice_get rows i) (suc i)

-- the token with its row at the new place
unfoldable pub moved_by : Orders → Token → Token
moved_by orders t = record { table = t.table; row = place_in_order (orders t.table) t.row }

-- the rows of a table as they stand
unfoldable pub standing_rows : Module → ℕ → List ℕ
standing_rows m table = map (λ n. n + 1) (below (row_count m table))

-- the children of these owners in a child table, owner by owner, in order of attachment
unfoldable pub kids_listed : Module → List ℕ → ℕ → List ℕ
kids_listed m owners child = flat_map (λ row. kids_of m (record { table = owner_table child; row = row }) child) owners

-- TypeDef rows go by depth, so that each type stands behind the one around it (II.22.32); all others stay as they
-- were before
unfoldable pub by_depth : Module → Orders → Orders
by_depth m before table = if table == tables.type_def then sorted_by (depth m) (standing_rows m table) else before table

-- Field, MethodDef, Event and Property rows go by their owners; the rows of the two maps stay
abbrev pub goes_by_owner : ℕ → Bool
goes_by_owner table = table == tables.field || table == tables.method_def || table == tables.event
    || table == tables.property

unfoldable pub by_owner : Module → Orders → Orders
by_owner m before table = if goes_by_owner table then kids_listed m (before (owner_table table)) table else before table

-- and so do Param rows
unfoldable pub by_method : Module → Orders → Orders
by_method m before table = if table == tables.param then kids_listed m (before tables.method_def) table
    else before table

-- the key columns of the tables that go by keys (II.22): Class and Interface of InterfaceImpl; Parent of Constant,
-- CustomAttribute, FieldMarshal,
-- DeclSecurity and ClassLayout; Field of FieldLayout and FieldRVA; Association of MethodSemantics; Class of
-- MethodImpl; MemberForwarded of ImplMap;
-- NestedClass of NestedClass; Owner and Number of GenericParam; Owner of GenericParamConstraint
unfoldable pub key_columns : ℕ → List ℕ
key_columns table =
    if table == tables.interface_impl then 0 ∷ 1 ∷ []
    else if table == tables.constant then 1 ∷ []
    else if table == tables.custom_attribute then 0 ∷ []
    else if table == tables.field_marshal then 0 ∷ []
    else if table == tables.decl_security then 1 ∷ []
    else if table == tables.class_layout then 2 ∷ []
    else if table == tables.field_layout then 1 ∷ []
    else if table == tables.method_semantics then 2 ∷ []
    else if table == tables.method_impl then 0 ∷ []
    else if table == tables.impl_map then 1 ∷ []
    else if table == tables.field_rva then 1 ∷ []
    else if table == tables.nested_class then 0 ∷ []
    else if table == tables.generic_param then 2 ∷ 0 ∷ []
    else if table == tables.generic_param_constraint then 0 ∷ []
    else []

abbrev pub is_keyed : ℕ → Bool
is_keyed table = nat_lt 0 (length (key_columns table))

-- the tag of a table in a coding (II.24.2.6)
abbrev pub is_some_table : ℕ → Option ℕ → Bool
is_some_table table t = option_map_or (λ u. u == table) t false

unfoldable pub tag_of : Coding → ℕ → ℕ
tag_of kind table = unwrap_or (position (is_some_table table) (tables_of kind)) 0

-- the number that stands for a token in a coded column; nil is 0
unfoldable pub coded_value : Coding → Token → ℕ
coded_value kind t = if t.row == 0 then 0 else t.row * 2 ^ tag_bits kind + tag_of kind t.table

-- the number of a column's cell once tokens are moved: a row, a coded number, or the number itself
abbrev pub column_key : Orders → Module → Token → ℕ → Option Column → ℕ
column_key orders m u i (Some (Index table)) = (moved_by orders (token_at (cells_of m) u i)).row
column_key orders m u i (Some (Coded kind)) = coded_value kind (moved_by orders (token_at (cells_of m) u i))
column_key orders m u i (Some Num16) = number_at (cells_of m) u i
column_key orders m u i _ = 0

-- the numbers of key columns as one, the first column's counting most
unfoldable pub key_from : ℕ → Orders → Module → Token → List ℕ → ℕ
key_from before orders m u [] = before
key_from before orders m u (i ∷ columns) =
    key_from (before * 2 ^ 32 + column_key orders m u i (column_in u.table i)) orders m u columns

unfoldable pub order_key : Orders → Module → ℕ → ℕ → ℕ
order_key orders m table row = key_from 0 orders m (record { table = table; row = row }) (key_columns table)

-- the rows of a table by key
unfoldable pub keyed_rows : Orders → Module → ℕ → List ℕ
keyed_rows orders m table = sorted_by (order_key orders m table) (standing_rows m table)

-- tables that name rows of other tables that go by keys
abbrev pub is_last : ℕ → Bool
is_last table = table == tables.generic_param_constraint || table == tables.custom_attribute

unfoldable pub by_key : Module → Orders → Orders
by_key m before table = if is_keyed table && not (is_last table) then keyed_rows before m table else before table

-- GenericParamConstraint names rows of GenericParam
unfoldable pub by_param : Module → Orders → Orders
by_param m before table = if table == tables.generic_param_constraint then keyed_rows before m table else before table

-- CustomAttribute names rows of nearly all tables, and comes last
unfoldable pub by_attribute : Module → Orders → Orders
by_attribute m before table = if table == tables.custom_attribute then keyed_rows before m table else before table

-- one after the other
unfoldable pub new_order : Module → Orders
new_order m = by_attribute m (by_param m (by_key m (by_method m (by_owner m (by_depth m (standing_rows m))))))

-- where a row of a module goes, and which row comes to a place
abbrev pub new_of : Module → Token → Token
new_of m t = moved_by (new_order m) t

unfoldable pub old_of : Module → Token → Token
old_of m t = record { table = t.table; row = old_row (new_order m t.table) t.row }
