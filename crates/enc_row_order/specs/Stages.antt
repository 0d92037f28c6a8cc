-- The stages in which the rows of a module get their order.
use Rattle.std.specs.Prelude.{◌≡◌, ℕ, Bool, not, ◌&&◌, ◌==◌, List, length}
use Rattle.std.specs.List.Sorted.{IsPermutation}
use Rattle.enc_plain.specs.Module.{Module}
use Rattle.enc_row_order.specs.Depth.{depth}
use Rattle.enc_row_order.specs.Orders.{Orders, standing_rows, kids_listed, keyed_rows, goes_by_owner, is_keyed, is_last, by_depth, by_owner, by_method, by_key}
use Rattle.enc_row_order.specs.Orders.{by_param, by_attribute}
use Rattle.enc_row_order.specs.Sorted.{sorted_by}
use Rattle.enc_row_order.specs.declared.stage.Stage.{Stage}
use Rattle.enc_row_order.specs.declared.stage.Stage.TheVariants as stage
use Rattle.enc_schema.specs.Children.{owner_table}
use Rattle.enc_schema.specs.Schema.{list_at}
use Rattle.enc_base.specs.Tables as tables
use Rattle.enc_base.specs.Tables.{table_count}

abbrev pub stage_of : Stage → Module → Orders → Orders
stage_of stage.Depth = by_depth
stage_of stage.Owner = by_owner
stage_of stage.Method = by_method
stage_of stage.Key = by_key
stage_of stage.Param = by_param
stage_of stage.Attribute = by_attribute

-- the stage orders this table; all others stay
abbrev pub is_ordered : Stage → ℕ → Bool
is_ordered stage.Depth table = table == tables.type_def
is_ordered stage.Owner table = goes_by_owner table
is_ordered stage.Method table = table == tables.param
is_ordered stage.Key table = is_keyed table && not (is_last table)
is_ordered stage.Param table = table == tables.generic_param_constraint
is_ordered stage.Attribute table = table == tables.custom_attribute

-- types by depth, and children by their owners
abbrev pub types_by_depth : Module → List ℕ
types_by_depth m = sorted_by (depth m) (standing_rows m tables.type_def)

abbrev pub rows_by_owner : Module → Orders → Orders
rows_by_owner m before table = kids_listed m (before (owner_table table)) table

-- the rows of a table that it orders
abbrev pub ordered_rows : Stage → Module → Orders → Orders
ordered_rows stage.Depth m before table = sorted_by (depth m) (standing_rows m table)
ordered_rows stage.Owner m before table = rows_by_owner m before table
ordered_rows stage.Method m before table = rows_by_owner m before table
ordered_rows stage.Key m before table = keyed_rows before m table
ordered_rows stage.Param m before table = keyed_rows before m table
ordered_rows stage.Attribute m before table = keyed_rows before m table

-- each table's rows, each once
pub record AreOrdersOf (m : Module) (tables : List (List ℕ)) : Type 0 where
  pub count : length tables ≡ table_count
  pub each : (table : ℕ) → IsPermutation (standing_rows m table) (list_at tables table)
