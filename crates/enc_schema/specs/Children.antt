-- Which tables hold children, which tables own them, and by which columns (ECMA-335 II.22.37, II.22.26, II.22.12,
-- II.22.35).
use Rattle.std.specs.Prelude.{ℕ, Bool, List, [], ◌∷◌, nat_lt, ◌==◌, if◌then◌else◌}
use Rattle.enc_schema.specs.Columns.{type_def_field_list, type_def_method_list, method_def_param_list, event_map_event_list, property_map_property_list}
use Rattle.enc_base.specs.Tables.{type_def, field_ptr, field, method_ptr, method_def, param_ptr, param, event_map, event_ptr, event, property_map, property_ptr, property}

-- the Ptr table of a child table, 0 where it has none
abbrev pub ptr_of : ℕ → ℕ
ptr_of child =
    if child == field then field_ptr
    else if child == method_def then method_ptr
    else if child == param then param_ptr
    else if child == event then event_ptr
    else if child == property then property_ptr
    else 0

-- Field, MethodDef, Param, Event, Property
abbrev pub is_child_table : ℕ → Bool
is_child_table table = nat_lt 0 (ptr_of table)

-- the owners' table and the column of their runs, for each child table
abbrev pub owner_table : ℕ → ℕ
owner_table child =
    if child == field then type_def
    else if child == method_def then type_def
    else if child == param then method_def
    else if child == event then event_map
    else property_map

abbrev pub run_column : ℕ → ℕ
run_column child =
    if child == field then type_def_field_list
    else if child == method_def then type_def_method_list
    else if child == param then method_def_param_list
    else if child == event then event_map_event_list
    else property_map_property_list

-- the place of a child table's runs among those of its owners
abbrev pub run_index : ℕ → ℕ
run_index child = if child == method_def then 1 else 0

-- the child tables of a table, in the order of its runs
abbrev pub runs_in : ℕ → List ℕ
runs_in table =
    if table == type_def then field ∷ method_def ∷ []
    else if table == method_def then param ∷ []
    else if table == event_map then event ∷ []
    else if table == property_map then property ∷ []
    else []
