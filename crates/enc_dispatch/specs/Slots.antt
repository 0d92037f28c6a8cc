-- Slots: methods of equal names and alike signatures share one, by the first of them (ECMA-335 II.10.3).
use Rattle.std.specs.Prelude.{ℕ, Bool, Option, Some, None, ◌+◌, ◌&&◌, bytes_eq, if◌then◌else◌}
use Rattle.enc_base.specs.Order.{first_below}
use Rattle.enc_base.specs.Token.{nth_row}
use Rattle.enc_base.specs.declared.token.Token.{Token}
use Rattle.enc_plain.specs.Alike.{signatures_alike}
use Rattle.enc_plain.specs.Module.{Module, cells_of}
use Rattle.enc_plain.specs.Rows.{Rows, bytes_at}
use Rattle.enc_schema.specs.Columns as columns
use Rattle.enc_base.specs.Tables as tables

-- methods of equal names and alike signatures, by the cells of rows
unfoldable pub shares_slot : Rows → Token → Token → Bool
shares_slot rows a b =
    bytes_eq (bytes_at rows a columns.method_def_name) (bytes_at rows b columns.method_def_name)
    && signatures_alike rows tables.method_def (bytes_at rows a columns.method_def_signature)
    (bytes_at rows b columns.method_def_signature)

-- the n-th method shares a method's slot, n from 0
unfoldable pub shares_at : Rows → Token → ℕ → Option ℕ
shares_at rows method n = if shares_slot rows (nth_row tables.method_def n) method then Some (n + 1) else None

-- the slot of a method: the number of the first row, up to its own, that shares it
unfoldable pub slot_in : Rows → Token → Option ℕ
slot_in rows method = first_below (shares_at rows method) method.row

abbrev pub slot_of : Module → Token → Option ℕ
slot_of m method = slot_in (cells_of m) method
