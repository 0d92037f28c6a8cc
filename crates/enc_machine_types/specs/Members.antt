-- What the interpreter sees of fields and methods (ECMA-335 II.22.15, II.22.26).
use Rattle.std.specs.Prelude.{ℕ, Bool, true, false, not, ◌&&◌, List, [], Option, Some, None, option_map, is_some, bytes_eq, codes, filter, slice_get, ◌==◌, if◌then◌else◌}
use Rattle.std.specs.List.{list_any}
use Rattle.enc_base.specs.Numbers.{has_flag}
use Rattle.enc_base.specs.declared.token.Token.{Token}
use Rattle.enc_objects.specs.declared.kind.Kind.{Kind}
use Rattle.enc_opcodes.specs.Body.{Body, Handler, HandlerKind, filtering}
use Rattle.enc_plain.specs.Cell.{Cell, body}
use Rattle.enc_plain.specs.Module.{Module, cells_of, cell_of, kids_of}
use Rattle.enc_plain.specs.Rows.{number_at, bytes_at}
use Rattle.enc_schema.specs.Columns as columns
use Rattle.enc_base.specs.Tables as tables
use Rattle.enc_machine_types.specs.Elements.{CallShape, call_shape_in, field_kind_in, local_kinds_in, takes_nothing}

-- how a method is called
abbrev pub call_shape : Module → Token → Option CallShape
call_shape m method = call_shape_in (bytes_at (cells_of m) method columns.method_def_signature)

-- the kind of a field
abbrev pub field_kind : Module → Token → Option Kind
field_kind m field = field_kind_in (bytes_at (cells_of m) field columns.field_signature)

-- the kinds of a body's local variables: none where its token is nil (II.25.4.4)
unfoldable pub local_kinds : Module → Token → Option (List Kind)
local_kinds m locals =
    if locals.row == 0 then Some []
    else if locals.table == tables.stand_alone_sig
    then local_kinds_in (bytes_at (cells_of m) locals columns.stand_alone_sig_signature)
    else None

-- the method is static (II.23.1.10)
abbrev pub is_static_method : Module → Token → Bool
is_static_method m method = has_flag 0x10 (number_at (cells_of m) method columns.method_def_flags)

abbrev pub is_named_as : Module → List ℕ → Token → Bool
is_named_as m name method = bytes_eq (bytes_at (cells_of m) method columns.method_def_name) name

-- a constructor of objects, and one of a type (II.10.5.1, II.10.5.3)
abbrev pub is_constructor : Module → Token → Bool
is_constructor m method = is_named_as m (codes ".ctor") method

unfoldable pub is_type_constructor : Module → Token → Bool
is_type_constructor m method =
    is_named_as m (codes ".cctor") method && is_static_method m method
    && takes_nothing (bytes_at (cells_of m) method columns.method_def_signature)

-- a method by its row
abbrev pub method_of_row : ℕ → Token
method_of_row row = record { table = tables.method_def; row = row }

-- the first constructor of a type among rows of methods
abbrev pub constructor_among : Module → List ℕ → Option Token
constructor_among m rows = option_map method_of_row
    (slice_get (filter (λ (row : ℕ). is_type_constructor m (method_of_row row)) rows) 0)

-- the first constructor of a type, in order of attachment
unfoldable pub type_constructor : Module → Token → Option Token
type_constructor m type =
    option_map method_of_row (slice_get
    (filter (λ (row : ℕ). is_type_constructor m (method_of_row row)) (kids_of m type tables.method_def)) 0)

-- the body of a method
abbrev pub body_of_cell : Option Cell → Option Body
body_of_cell (Some (body b)) = b
body_of_cell _ = None

abbrev pub method_body : Module → Token → Option Body
method_body m method = body_of_cell (cell_of m method columns.method_def_rva)

-- a clause that asks a filter
abbrev pub is_filter : HandlerKind → Bool
is_filter (filtering offset) = true
is_filter _ = false

-- a body that the interpreter runs: its local variables have kinds, and no clause asks a filter
unfoldable pub runs_body : Module → Body → Bool
runs_body m b = is_some (local_kinds m b.locals) && not (list_any (λ (h : Handler). is_filter h.kind) b.handlers)

-- the body of a method that the interpreter runs: of one whose types have kinds too
abbrev pub if_runs : Module → Option Body → Option Body
if_runs m None = None
if_runs m (Some b) = if runs_body m b then Some b else None

unfoldable pub run_body : Module → Token → Option Body
run_body m method = if is_some (call_shape m method) then if_runs m (method_body m method) else None
