-- The signatures of a base are ones by its module's rows.
use Rattle.std.proofs.Common.{◌≡◌, ℕ, ◌-◌, true, Some, None, arith}
use Rattle.std.specs.Prelude.{IsTrue}
use Rattle.enc_base.specs.Token.{nth_row}
use Rattle.enc_base.specs.Order.{or_else, first_below}
use Rattle.enc_base.specs.declared.token.Token.{Token}
use Rattle.enc_base.proofs.First.{silent}
use Rattle.enc_rows.specs.Layout.{rows_of}
use Rattle.enc_rows.specs.Source.{Source, raw_in}
use Rattle.enc_plain.specs.Module.{has_row, cells_of}
use Rattle.enc_plain.specs.Rows.{bytes_at}
use Rattle.enc_plain.specs.Signatures.{signature_column, is_signature}
use Rattle.enc_plain.specs.Sound.{row_count, HasSignatures}
use Rattle.enc_plain.proofs.SignatureRows.{signature_kept}
use Rattle.enc_plain.proofs.SignatureColumns.{signature_kind}
use Rattle.enc_image.specs.Base.{blob_or_none, signature_fault_at, signature_fault_in, signature_fault, rule, body_fault, field_fault, cells_fault, module_in}
use Rattle.enc_image.proofs.Rows.{row_stands, token_is}
use Rattle.enc_image.proofs.Texts.{neither, no_place, if_some}
use Rattle.enc_image.proofs.Told.{blob_is, type_tables}

no_signature_fault : (s : Source) → cells_fault s ≡ None → signature_fault s ≡ None
unfolding cells_fault
no_signature_fault s h = no_place 11 (signature_fault s) (neither (rule 11 (signature_fault s)) (or_else (rule 10 (body_fault s)) (rule 5 (field_fault s))) (neither _ _ (neither _ _ h).1).1).0

in_file : (s : Source) (u : Token) (i : ℕ) → cells_fault s ≡ None → IsTrue (has_row (module_in s) u) → signature_column u.table ≡ Some i → is_signature (rows_of s.layout) u.table (blob_or_none s (raw_in s u i)) ≡ true
unfolding signature_fault signature_fault_in signature_fault_at
in_file s u i sound there column =
    let row = row_stands s u there in
    let in_table = silent (signature_fault_in s) 0x2D u.table (no_signature_fault s sound) row.table in
    let in_rows : first_below (signature_fault_at s u.table i) (rows_of s.layout u.table) ≡ None = rw column at in_table in
    let in_row = silent (signature_fault_at s u.table i) (rows_of s.layout u.table) (u.row - 1) in_rows (omega (arith, row.low, row.high)) in
    let good = if_some (is_signature (rows_of s.layout) u.table (blob_or_none s (raw_in s (nth_row u.table (u.row - 1)) i))) _ in_row in
    rw (token_is u row.low) at good

of_module : (s : Source) (u : Token) (i : ℕ) → cells_fault s ≡ None → IsTrue (has_row (module_in s) u) → signature_column u.table ≡ Some i → is_signature (row_count (module_in s)) u.table (bytes_at (cells_of (module_in s)) u i) ≡ true
of_module s u i sound there column =
    let blob = blob_is s u i sound there (signature_kind u.table i column) in
    rw blob (signature_kept (rows_of s.layout) (row_count (module_in s)) u.table (blob_or_none s (raw_in s u i)) (type_tables s) (in_file s u i sound there column))

pub base_signatures : (s : Source) → cells_fault s ≡ None → HasSignatures (module_in s)
base_signatures s sound = record { each = λ u i there column. of_module s u i sound there column }
