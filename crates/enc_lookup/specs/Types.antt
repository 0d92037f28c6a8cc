-- Types by their names, and by the type that they are nested in (ECMA-335 II.22.37, II.22.32).
use Rattle.std.specs.Prelude.{ℕ, Bool, ◌&&◌, ◌%◌, ◌==◌, List, Option, Some, None, bytes_eq, nat_lt, if◌then◌else◌}
use Rattle.enc_base.specs.Order.{first_below}
use Rattle.enc_base.specs.Token.{is_token, nth_row}
use Rattle.enc_base.specs.declared.token.Token.{Token}
use Rattle.enc_plain.specs.Module.{Module, cells_of, has_row}
use Rattle.enc_plain.specs.Rows.{bytes_at, number_at, token_at}
use Rattle.enc_plain.specs.Sound.{row_count}
use Rattle.enc_schema.specs.Columns as columns
use Rattle.enc_base.specs.Tables as tables

-- a type of the module has these names (II.22.37)
unfoldable pub has_names : Module → List ℕ → List ℕ → Token → Bool
has_names m namespace name t =
    t.table == tables.type_def && has_row m t
    && bytes_eq (bytes_at (cells_of m) t columns.type_def_type_name) name
    && bytes_eq (bytes_at (cells_of m) t columns.type_def_type_namespace) namespace

-- a type isn't nested: the low three bits of its flags are 0 or 1 (II.23.1.15)
unfoldable pub is_outermost : Module → Token → Bool
is_outermost m t = t.table == tables.type_def && nat_lt (number_at (cells_of m) t columns.type_def_flags % 8) 2

-- the n-th type, n from 0, where it has these names and isn't nested
unfoldable pub outermost_at : Module → List ℕ → List ℕ → ℕ → Option Token
outermost_at m namespace name n =
    if has_names m namespace name (nth_row tables.type_def n) && is_outermost m (nth_row tables.type_def n)
    then Some (nth_row tables.type_def n) else None

-- the type that the n-th row of NestedClass, n from 0, says to be nested in another, where it has these names
-- (II.22.32)
unfoldable pub nested_at : Module → Token → List ℕ → List ℕ → ℕ → Option Token
nested_at m enclosing namespace name n =
    if is_token (token_at (cells_of m) (nth_row tables.nested_class n) 1) enclosing
    && has_names m namespace name (token_at (cells_of m) (nth_row tables.nested_class n) 0)
    then Some (token_at (cells_of m) (nth_row tables.nested_class n) 0)
    else None

-- the first type with these names that is nested in another, or in none where that is nil
unfoldable pub type_named : Module → Token → List ℕ → List ℕ → Option Token
type_named m enclosing namespace name =
    if enclosing.row == 0 then first_below (outermost_at m namespace name) (row_count m tables.type_def)
    else first_below (nested_at m enclosing namespace name) (row_count m tables.nested_class)
