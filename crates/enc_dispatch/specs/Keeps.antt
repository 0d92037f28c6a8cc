-- For the contracts of private functions: whether rows that a delta lists keep what the index reads of them.
use Rattle.std.specs.Prelude.{ℕ, Bool, not, ◌&&◌, ◌||◌, ◌==◌, List, length, nat_le, bytes_eq, if◌then◌else◌}
use Rattle.enc_base.specs.Token.{is_token}
use Rattle.enc_base.specs.declared.token.Token.{Token}
use Rattle.enc_plain.specs.Alike.{signatures_alike}
use Rattle.enc_plain.specs.Module.{Module, has_row, cells_of}
use Rattle.enc_plain.specs.Rows.{number_at, bytes_at, token_at}
use Rattle.enc_schema.specs.Columns as columns
use Rattle.enc_base.specs.Tables as tables

-- a row has in both modules the same number, text or blob, or token in a column
abbrev pub keeps_number : Module → Module → Token → ℕ → Bool
keeps_number m n t i = number_at (cells_of m) t i == number_at (cells_of n) t i

abbrev pub keeps_bytes : Module → Module → Token → ℕ → Bool
keeps_bytes m n t i = bytes_eq (bytes_at (cells_of m) t i) (bytes_at (cells_of n) t i)

abbrev pub keeps_token : Module → Module → Token → ℕ → Bool
keeps_token m n t i = is_token (token_at (cells_of m) t i) (token_at (cells_of n) t i)

-- a method's signature
abbrev pub signature_of : Module → Token → List ℕ
signature_of m t = bytes_at (cells_of m) t columns.method_def_signature

-- the most bytes of a signature that is compared by what it names
abbrev pub most_compared : ℕ
most_compared = 0x400

-- a method has the same signature, or in place of a short one another that is alike in the new module
unfoldable pub keeps_signature : Module → Module → Token → Bool
keeps_signature m n t =
    bytes_eq (signature_of m t) (signature_of n t)
    || (nat_le (length (signature_of m t)) most_compared
    && signatures_alike (cells_of n) tables.method_def (signature_of m t) (signature_of n t))

-- of a method its flags, name and signature are read, of a class its flags and what it extends
unfoldable pub keeps_method : Module → Module → Token → Bool
keeps_method m n t = keeps_number m n t columns.method_def_flags && keeps_bytes m n t columns.method_def_name
    && keeps_signature m n t

unfoldable pub keeps_class : Module → Module → Token → Bool
keeps_class m n t = keeps_number m n t columns.type_def_flags && keeps_token m n t columns.type_def_extends

-- TypeRef, AssemblyRef, ModuleRef and TypeSpec: what a signature may name, and what stands around it
abbrev pub is_read_by_likeness : ℕ → Bool
is_read_by_likeness t = t == tables.type_ref || t == tables.assembly_ref || t == tables.module_ref
    || t == tables.type_spec

-- the other tables that are read
abbrev pub is_read : ℕ → Bool
is_read t = is_read_by_likeness t || t == tables.method_impl || t == tables.interface_impl
    || t == tables.stand_alone_sig

-- a row keeps what is read of it; of those tables it is taken to keep nothing
unfoldable pub keeps_row : Module → Module → Token → Bool
keeps_row m n t =
    if t.table == tables.method_def then keeps_method m n t
    else if t.table == tables.type_def then keeps_class m n t
    else not (is_read t.table)

-- the token is of a new row, or of one that keeps what is read of it
unfoldable pub keeps : Module → Module → Token → Bool
keeps m n t = not (has_row m t) || keeps_row m n t
