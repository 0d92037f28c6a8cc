-- How deep types are nested (ECMA-335 II.22.32).
use Rattle.std.specs.Prelude.{ℕ, zero, suc, ◌+◌, Option, Some, None, if◌then◌else◌}
use Rattle.enc_base.specs.Order.{first_below}
use Rattle.enc_base.specs.Token.{nth_row, is_token}
use Rattle.enc_plain.specs.Module.{Module, cells_of}
use Rattle.enc_plain.specs.Rows.{token_at}
use Rattle.enc_plain.specs.Sound.{row_count}
use Rattle.enc_base.specs.Tables as tables

-- the columns of NestedClass
abbrev pub nested_class_nested_class : ℕ
nested_class_nested_class = 0

abbrev pub nested_class_enclosing_class : ℕ
nested_class_enclosing_class = 1

-- the EnclosingClass of a row of NestedClass, where its NestedClass is this row of TypeDef
unfoldable pub enclosing_at : Module → ℕ → ℕ → Option ℕ
enclosing_at m type k =
    if is_token (token_at (cells_of m) (nth_row tables.nested_class k) nested_class_nested_class)
    (record { table = tables.type_def; row = type })
    then Some (token_at (cells_of m) (nth_row tables.nested_class k) nested_class_enclosing_class).row
    else None

-- the same of the first such row: the row of the type around a type
unfoldable pub enclosing : Module → ℕ → Option ℕ
enclosing m type = first_below (enclosing_at m type) (row_count m tables.nested_class)

-- one more than the type around it has
abbrev pub depth_around : Option ℕ → (ℕ → ℕ) → ℕ
depth_around None depth = 0
depth_around (Some type) depth = depth type + 1

-- how many types stand around one, counted by at most so many steps
unfoldable pub depth_by : Module → ℕ → ℕ → ℕ
depth_by m zero type = 0
depth_by m (suc n) type = depth_around (enclosing m type) (depth_by m n)

-- the depth of a type: the walk takes at most as many steps as there are types
unfoldable pub depth : Module → ℕ → ℕ
depth m type = depth_by m (row_count m tables.type_def) type
