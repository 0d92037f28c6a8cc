-- Each signature is one of its table's kind after edits.
use Rattle.std.proofs.Common.{◌≡◌, ℕ, ◌≤◌, Bool, true, false, Some, refl, sym, subst, arith}
use Rattle.std.specs.Prelude.{slice_get, not, ◌==◌}
use Rattle.std.proofs.lemmas.Bool.Decides.{nat_tests}
use Rattle.enc_base.specs.declared.token.Token.{Token}
use Rattle.enc_plain.specs.Cell.{is_body}
use Rattle.enc_plain.specs.Chain.{Chain}
use Rattle.enc_plain.specs.Module.{has_row, cells_of}
use Rattle.enc_plain.specs.Rows.{bytes_at}
use Rattle.enc_plain.specs.Signatures.{signature_column, is_signature}
use Rattle.enc_plain.specs.Sound.{row_count, HasTables, HasSignatures}
use Rattle.enc_plain.proofs.SignatureRows.{TypesGrow, signature_kept}
use Rattle.enc_edit_list.specs.declared.edit.Edit.{Edit}
use Rattle.enc_edit_list.specs.declared.edit.Edit.TheVariants.{Add, Body as Replace}
use Rattle.enc_edit_list.specs.declared.edit.EditList.{EditList}
use Rattle.enc_edit_list.specs.Added.{adds_to}
use Rattle.enc_rules.specs.Edited.{rows_edited, edited}
use Rattle.enc_rules.specs.Listed.{count_after, rows_listed}
use Rattle.enc_rules.specs.Rules.{new_signature_breaks, signature_is_bad}
use Rattle.enc_memory_module.proofs.Unbroken.{BreakNothing}
use Rattle.enc_memory_module.proofs.Agreed.{bytes_agree, bytes_stay}
use Rattle.enc_memory_module.proofs.Grown.{count_is, rows_grow, AddsRow, Origin, was, new, origin}

-- a signature is no body
method_column : (i : ℕ) → signature_column 6 ≡ Some i → is_body 6 i ≡ false
unfolding signature_column
method_column i h = let e : 4 ≡ i = cc in rw (← e) refl

no_body_by : (table i : ℕ) (b : Bool) → (table == 6) ≡ b → signature_column table ≡ Some i → is_body table i ≡ false
no_body_by table i true six h =
    let t : table ≡ 6 = grind (arith, nat_tests, six) in
    subst (λ n. signature_column n ≡ Some i → is_body n i ≡ false) (sym t) (method_column i) h
no_body_by table i false six h = rw six refl

no_body : (table i : ℕ) → signature_column table ≡ Some i → is_body table i ≡ false
no_body table i h = no_body_by table i (table == 6) refl h

-- of a row that was there
types_grow : (c : Chain) (l : EditList) → HasTables c.plain → BreakNothing c l → TypesGrow (row_count c.plain) (row_count (edited c.plain l.edits))
types_grow c l has none = record { definitions = rows_grow c l 0x02 has none; references = rows_grow c l 0x01 has none; specifications = rows_grow c l 0x1B has none }

old_signature : (c : Chain) (l : EditList) (u : Token) (i : ℕ) → HasTables c.plain → BreakNothing c l → HasSignatures c.plain → has_row c.plain u ≡ true → u.row ≤ row_count c.plain u.table → signature_column u.table ≡ Some i → is_signature (row_count (edited c.plain l.edits)) u.table (bytes_at (cells_of (edited c.plain l.edits)) u i) ≡ true
old_signature c l u i has none before there low column =
    rw (bytes_stay c l u i has none (no_body u.table i column) low) (signature_kept (row_count c.plain) (row_count (edited c.plain l.edits)) u.table (bytes_at (cells_of c.plain) u i) (types_grow c l has none) (before.each u i there column))

-- and of one that an edit adds
types_told : (c : Chain) (l : EditList) → HasTables c.plain → BreakNothing c l → TypesGrow (count_after c l.edits) (row_count (edited c.plain l.edits))
types_told c l has none = record { definitions = at 0x02; references = at 0x01; specifications = at 0x1B }
  where
    at : (t : ℕ) → count_after c l.edits t ≤ row_count (edited c.plain l.edits) t
    at t = let n = count_is c l t has none in omega (arith, n)

good : (b : Bool) → not b ≡ false → b ≡ true
good true h = refl
good false h = absurd cc

told_by : (c : Chain) (l : EditList) (u : Token) (i : ℕ) (e : Edit) → adds_to u.table e ≡ true → signature_column u.table ≡ Some i → new_signature_breaks (count_after c l.edits) (rows_listed c l.edits) e u ≡ false → is_signature (count_after c l.edits) u.table (bytes_at (rows_listed c l.edits) u i) ≡ true
told_by c l u i (Add table owner cells code points) adds column unbroken =
    let is : table ≡ u.table = grind (arith, nat_tests, adds) in
    good (is_signature (count_after c l.edits) u.table (bytes_at (rows_listed c l.edits) u i)) (rw (is, column) at unbroken)
told_by c l u i (Replace method code points) adds column unbroken = absurd cc

told : (c : Chain) (l : EditList) (u : Token) (i k : ℕ) (e : Edit) → BreakNothing c l → slice_get l.edits k ≡ Some e → slice_get (rows_edited c.plain l.edits) k ≡ Some u → adds_to u.table e ≡ true → signature_column u.table ≡ Some i → is_signature (count_after c l.edits) u.table (bytes_at (rows_listed c l.edits) u i) ≡ true
unfolding signature_is_bad
told c l u i k e none there row adds column = told_by c l u i e adds column (rw (there, row) at (none.signatures k))

new_signature : (c : Chain) (l : EditList) (u : Token) (i : ℕ) → HasTables c.plain → BreakNothing c l → AddsRow c l u → signature_column u.table ≡ Some i → is_signature (row_count (edited c.plain l.edits)) u.table (bytes_at (cells_of (edited c.plain l.edits)) u i) ≡ true
new_signature c l u i has none w column =
    rw (bytes_agree c l u i has none (no_body u.table i column)) (signature_kept (count_after c l.edits) (row_count (edited c.plain l.edits)) u.table (bytes_at (rows_listed c l.edits) u i) (types_told c l has none) (told c l u i w.at w.edit none w.there w.row w.adds column))

by_origin : (c : Chain) (l : EditList) (u : Token) (i : ℕ) → HasTables c.plain → BreakNothing c l → HasSignatures c.plain → Origin c l u → signature_column u.table ≡ Some i → is_signature (row_count (edited c.plain l.edits)) u.table (bytes_at (cells_of (edited c.plain l.edits)) u i) ≡ true
by_origin c l u i has none before (was there low) column = old_signature c l u i has none before there low column
by_origin c l u i has none before (new w) column = new_signature c l u i has none w column

-- so each signature is one after edits
pub signatures_stay : (c : Chain) (l : EditList) → HasTables c.plain → BreakNothing c l → HasSignatures c.plain → HasSignatures (edited c.plain l.edits)
signatures_stay c l has none before = record { each = λ u i there column. by_origin c l u i has none before (origin c l u has none there) column }
