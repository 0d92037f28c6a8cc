-- Types of the namespace System (ECMA-335 II.22.38).
use Rattle.std.specs.Prelude.{ℕ, Bool, ◌&&◌, List, bytes_eq, codes, ◌==◌}
use Rattle.enc_base.specs.declared.token.Token.{Token}
use Rattle.enc_plain.specs.Module.{Module, cells_of}
use Rattle.enc_plain.specs.Rows.{bytes_at}
use Rattle.enc_schema.specs.Columns as columns
use Rattle.enc_base.specs.Tables as tables

-- a TypeRef of the namespace System with this name (II.22.38)
unfoldable pub is_of_system : Module → List ℕ → Token → Bool
is_of_system m name t =
    t.table == tables.type_ref
    && bytes_eq (bytes_at (cells_of m) t columns.type_ref_type_namespace) (codes "System")
    && bytes_eq (bytes_at (cells_of m) t columns.type_ref_type_name) name
