-- What a class says of a method: its rows of MethodImpl and its virtual methods (ECMA-335 II.22.27, II.10.3).
use Rattle.std.specs.Prelude.{ℕ, Bool, ◌&&◌, ◌||◌, ◌%◌, Option, Some, None, option_map, bytes_eq, filter, slice_get, ◌==◌, if◌then◌else◌}
use Rattle.enc_base.specs.Numbers.{has_flag}
use Rattle.enc_base.specs.Order.{first_below}
use Rattle.enc_base.specs.Token.{nth_row, is_token}
use Rattle.enc_base.specs.declared.token.Token.{Token}
use Rattle.enc_plain.specs.Alike.{signatures_alike}
use Rattle.enc_plain.specs.Module.{Module, cells_of, kids_of}
use Rattle.enc_plain.specs.Rows.{number_at, bytes_at, token_at}
use Rattle.enc_plain.specs.Sound.{row_count}
use Rattle.enc_schema.specs.Columns as columns
use Rattle.enc_base.specs.Tables as tables
use Rattle.enc_dispatch.specs.Columns.{method_impl_class, method_impl_body, method_impl_declaration}

-- a row of MethodImpl by its columns: whose it is, the method that it gives, and the method that this one stands for
abbrev pub impl_class : Module → ℕ → Token
impl_class m k = token_at (cells_of m) (nth_row tables.method_impl k) method_impl_class

abbrev pub impl_body : Module → ℕ → Token
impl_body m k = token_at (cells_of m) (nth_row tables.method_impl k) method_impl_body

abbrev pub impl_declaration : Module → ℕ → Token
impl_declaration m k = token_at (cells_of m) (nth_row tables.method_impl k) method_impl_declaration

-- what a row of MethodImpl gives a class for either of two methods; only a MethodDef counts
unfoldable pub impl_at : Module → Token → Token → Token → ℕ → Option Token
impl_at m class declared current k =
    if is_token (impl_class m k) class
    && (impl_body m k).table == tables.method_def
    && (is_token (impl_declaration m k) declared || is_token (impl_declaration m k) current)
    then Some (impl_body m k)
    else None

-- what the first such row gives
unfoldable pub impl_of : Module → Token → Token → Token → Option Token
impl_of m class declared current = first_below (impl_at m class declared current) (row_count m tables.method_impl)

-- a method's row by its number
abbrev pub method_at : ℕ → Token
method_at row = record { table = tables.method_def; row = row }

abbrev pub flags_of : Module → Token → ℕ
flags_of m method = number_at (cells_of m) method columns.method_def_flags

-- virtual; public; in a slot of its own (II.23.1.10)
abbrev pub is_virtual : Module → Token → Bool
is_virtual m method = has_flag 0x40 (flags_of m method)

abbrev pub is_public : Module → Token → Bool
is_public m method = flags_of m method % 8 == 6

abbrev pub is_new_slot : Module → Token → Bool
is_new_slot m method = has_flag 0x100 (flags_of m method)

-- methods of equal names and alike signatures
unfoldable pub same_slot : Module → Token → Token → Bool
same_slot m a b =
    bytes_eq (bytes_at (cells_of m) a columns.method_def_name) (bytes_at (cells_of m) b columns.method_def_name)
    && signatures_alike (cells_of m) tables.method_def
    (bytes_at (cells_of m) a columns.method_def_signature) (bytes_at (cells_of m) b columns.method_def_signature)

-- a virtual method that takes the declared one's place
unfoldable pub takes_slot : Module → Token → Token → Bool
takes_slot m declared method = is_virtual m method && same_slot m method declared

-- a public one
unfoldable pub meets : Module → Token → Token → Bool
meets m declared method = is_public m method && takes_slot m declared method

-- the first of a class's methods, in order of attachment, that passes a test
unfoldable pub first_method : Module → (Token → Bool) → Token → Option Token
first_method m test class = option_map method_at
    (slice_get (filter (λ (row : ℕ). test (method_at row)) (kids_of m class tables.method_def)) 0)
