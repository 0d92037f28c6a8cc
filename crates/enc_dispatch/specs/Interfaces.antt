-- The interfaces of a class: those of the classes of its path (ECMA-335 II.22.23).
use Rattle.std.specs.Prelude.{ℕ, Bool, ◌&&◌, Option, Some, None, is_some, if◌then◌else◌}
use Rattle.std.specs.List.{list_any}
use Rattle.enc_base.specs.Order.{first_below}
use Rattle.enc_base.specs.Token.{nth_row, is_token}
use Rattle.enc_base.specs.declared.token.Token.{Token}
use Rattle.enc_base.specs.Tables as tables
use Rattle.enc_plain.specs.ClassPath.{path_of}
use Rattle.enc_plain.specs.Module.{Module, cells_of}
use Rattle.enc_plain.specs.Rows.{token_at}
use Rattle.enc_plain.specs.Sound.{row_count}
use Rattle.enc_dispatch.specs.Columns.{interface_impl_class, interface_impl_interface}

-- a row of InterfaceImpl says that a class has an interface (II.22.23)
unfoldable pub says_interface : Module → Token → Token → ℕ → Option Token
says_interface m class interface k =
    if is_token (token_at (cells_of m) (nth_row tables.interface_impl k) interface_impl_class) class
    && is_token (token_at (cells_of m) (nth_row tables.interface_impl k) interface_impl_interface) interface
    then Some interface
    else None

-- some row says so
unfoldable pub has_interface : Module → Token → Token → Bool
has_interface m class interface =
    is_some (first_below (says_interface m class interface) (row_count m tables.interface_impl))

-- a class of the path has the interface
abbrev pub implements : Module → Token → Token → Bool
implements m class interface = list_any (λ (c : Token). has_interface m c interface) (path_of m class)
