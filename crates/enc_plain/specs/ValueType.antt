-- Which types are value types (ECMA-335 II.10.1.3).
use Rattle.std.specs.Prelude.{Bool, ◌&&◌, ◌||◌, ◌==◌, bytes_eq, codes}
use Rattle.enc_base.specs.declared.token.Token.{Token}
use Rattle.enc_plain.specs.Rows.{Rows, bytes_at, token_at}
use Rattle.enc_base.specs.Tables as tables
use Rattle.enc_schema.specs.Columns as columns

-- the type extends a TypeRef that is named System.ValueType or System.Enum, whatever its scope (II.10.1.3)
unfoldable pub is_value_type : Rows → Token → Bool
is_value_type rows t =
    (token_at rows t columns.type_def_extends).table == tables.type_ref
    && bytes_eq (bytes_at rows (token_at rows t columns.type_def_extends) columns.type_ref_type_namespace)
    (codes "System")
    && (bytes_eq (bytes_at rows (token_at rows t columns.type_def_extends) columns.type_ref_type_name)
    (codes "ValueType")
    || bytes_eq (bytes_at rows (token_at rows t columns.type_def_extends) columns.type_ref_type_name) (codes "Enum"))
