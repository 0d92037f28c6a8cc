-- The texts and blobs of the rows that edits are about have their places in the heaps of the delta.
use Rattle.std.proofs.Common.{◌≡◌, ℕ, zero, suc, Bool, true, false, List, [], ◌∷◌, take, Some, refl, sym, ap, ◌∙◌, subst}
use Rattle.std.specs.Prelude.{◌==◌, map, flat_map, slice_get, option_map, if◌then◌else◌}
use Rattle.enc_base.specs.declared.token.Token.{Token}
use Rattle.enc_meta.specs.Built.{is_among, is_kept}
use Rattle.enc_plain.specs.Cell.{Cell, text, blob, body, field}
use Rattle.enc_plain.specs.Chain.{Chain}
use Rattle.enc_plain.specs.Rows.{bytes_at}
use Rattle.enc_schema.specs.Schema.{columns_in, column_in}
use Rattle.enc_schema.specs.declared.column.Column.TheVariants.{Text, Blob}
use Rattle.enc_edit_list.specs.declared.edit.Cell.{Cell as CellValue}
use Rattle.enc_edit_list.specs.declared.edit.Cell.TheVariants as cell
use Rattle.enc_edit_list.specs.declared.edit.Edit.{Edit}
use Rattle.enc_edit_list.specs.declared.edit.Edit.TheVariants.{Add, Body as Replace}
use Rattle.enc_edit_list.specs.declared.edit.EditList.{EditList}
use Rattle.enc_rules.specs.Edited.{cell_stated, body_stated, cells_stated, cells_edited, row_edited, rows_edited}
use Rattle.enc_rules.specs.Listed.{rows_listed}
use Rattle.enc_rules.specs.Rules.{texts_in_cell, blobs_in_cell, texts_of_edit, blobs_of_edit}
use Rattle.enc_rewriter.proofs.Says.{text_kind, blob_kind}
use Rattle.enc_memory_module.proofs.Landed.{lands}
use Rattle.enc_memory_module.proofs.Changed.{IsEditOf, edit_found}
use Rattle.enc_list_delta.specs.Delta.{is_edited, cells_written}
use Rattle.enc_list_delta.specs.Holds.{MayFollow, heaps_written}
use Rattle.enc_list_delta.proofs.CellsRead.{given}
use Rattle.enc_rules.proofs.RowsEdited.{row_there}
use Rattle.enc_writer.proofs.RowsStated.{IsStated, is_stated, text_stated, blob_stated}
use Rattle.enc_writer.proofs.ValuesKept.{text_brought, blob_brought, is_itself, among_front, among_behind}

-- a text among stated cells is one of theirs
text_in : (cells : List CellValue) (i : ℕ) (v : List ℕ) → slice_get (map cell_stated cells) i ≡ Some (text v) → is_among (flat_map texts_in_cell cells) v ≡ true
text_in [] i v h = absurd cc
text_in (x ∷ cells) (suc i) v h = among_behind (texts_in_cell x) (flat_map texts_in_cell cells) v (text_in cells i v h)
text_in (cell.Text bytes ∷ cells) zero v h = let e : bytes ≡ v = cc in among_front (bytes ∷ []) (flat_map texts_in_cell cells) v (rw e (is_itself v))
text_in (cell.Num n ∷ cells) zero v h = absurd cc
text_in (cell.Blob n ∷ cells) zero v h = absurd cc
text_in (cell.Guid n ∷ cells) zero v h = absurd cc
text_in (cell.Refer n ∷ cells) zero v h = absurd cc

blob_in : (cells : List CellValue) (i : ℕ) (v : List ℕ) → slice_get (map cell_stated cells) i ≡ Some (blob v) → is_among (flat_map blobs_in_cell cells) v ≡ true
blob_in [] i v h = absurd cc
blob_in (x ∷ cells) (suc i) v h = among_behind (blobs_in_cell x) (flat_map blobs_in_cell cells) v (blob_in cells i v h)
blob_in (cell.Blob bytes ∷ cells) zero v h = let e : bytes ≡ v = cc in among_front (bytes ∷ []) (flat_map blobs_in_cell cells) v (rw e (is_itself v))
blob_in (cell.Num n ∷ cells) zero v h = absurd cc
blob_in (cell.Text n ∷ cells) zero v h = absurd cc
blob_in (cell.Guid n ∷ cells) zero v h = absurd cc
blob_in (cell.Refer n ∷ cells) zero v h = absurd cc

-- so it is behind a body or the bytes of a field
text_stated_in : (m f : Bool) (x y : Cell) (cells : List CellValue) (i : ℕ) (v : List ℕ) → ((w : List ℕ) → x ≡ text w → ⊥) → ((w : List ℕ) → y ≡ text w → ⊥)
    → slice_get (if m then x ∷ map cell_stated cells else if f then y ∷ map cell_stated cells else map cell_stated cells) i ≡ Some (text v) → is_among (flat_map texts_in_cell cells) v ≡ true
text_stated_in true f x y cells zero v other others h = absurd (other v cc)
text_stated_in true f x y cells (suc i) v other others h = text_in cells i v h
text_stated_in false true x y cells zero v other others h = absurd (others v cc)
text_stated_in false true x y cells (suc i) v other others h = text_in cells i v h
text_stated_in false false x y cells i v other others h = text_in cells i v h

blob_stated_in : (m f : Bool) (x y : Cell) (cells : List CellValue) (i : ℕ) (v : List ℕ) → ((w : List ℕ) → x ≡ blob w → ⊥) → ((w : List ℕ) → y ≡ blob w → ⊥)
    → slice_get (if m then x ∷ map cell_stated cells else if f then y ∷ map cell_stated cells else map cell_stated cells) i ≡ Some (blob v) → is_among (flat_map blobs_in_cell cells) v ≡ true
blob_stated_in true f x y cells zero v other others h = absurd (other v cc)
blob_stated_in true f x y cells (suc i) v other others h = blob_in cells i v h
blob_stated_in false true x y cells zero v other others h = absurd (others v cc)
blob_stated_in false true x y cells (suc i) v other others h = blob_in cells i v h
blob_stated_in false false x y cells i v other others h = blob_in cells i v h

text_of_added : (table : ℕ) (cells : List CellValue) (code : _) (i : ℕ) (v : List ℕ) → slice_get (cells_stated table cells code) i ≡ Some (text v) → is_among (flat_map texts_in_cell cells) v ≡ true
unfolding cells_stated
text_of_added table cells code i v h = text_stated_in (table == 6) (table == 0x1D) (body (option_map body_stated code)) (field []) cells i v (λ w e. absurd cc) (λ w e. absurd cc) h

blob_of_added : (table : ℕ) (cells : List CellValue) (code : _) (i : ℕ) (v : List ℕ) → slice_get (cells_stated table cells code) i ≡ Some (blob v) → is_among (flat_map blobs_in_cell cells) v ≡ true
unfolding cells_stated
blob_of_added table cells code i v h = blob_stated_in (table == 6) (table == 0x1D) (body (option_map body_stated code)) (field []) cells i v (λ w e. absurd cc) (λ w e. absurd cc) h

-- a method has one text, its name, and one blob, its signature
the_text : (i : ℕ) → column_in 6 i ≡ Some Text → i ≡ 3
unfolding columns_in
the_text zero h = absurd cc
the_text (suc zero) h = absurd cc
the_text (suc (suc zero)) h = absurd cc
the_text (suc (suc (suc zero))) h = refl
the_text (suc (suc (suc (suc zero)))) h = absurd cc
the_text (suc (suc (suc (suc (suc zero))))) h = absurd cc
the_text (suc (suc (suc (suc (suc (suc i)))))) h = absurd cc

the_blob : (i : ℕ) → column_in 6 i ≡ Some Blob → i ≡ 4
unfolding columns_in
the_blob zero h = absurd cc
the_blob (suc zero) h = absurd cc
the_blob (suc (suc zero)) h = absurd cc
the_blob (suc (suc (suc zero))) h = absurd cc
the_blob (suc (suc (suc (suc zero)))) h = refl
the_blob (suc (suc (suc (suc (suc zero))))) h = absurd cc
the_blob (suc (suc (suc (suc (suc (suc i)))))) h = absurd cc

some_same : {A : Type 0} (a b : A) → Some a ≡ Some b → a ≡ b
some_same a b h = cc

-- the texts and blobs of an edit's row are those that the edit brings
brings_text : (c : Chain) (l : EditList) (k : ℕ) (e : Edit) (u : Token) (i : ℕ) (v : List ℕ) → IsStated c l u → slice_get l.edits k ≡ Some e → slice_get (rows_edited c.plain l.edits) k ≡ Some u
    → row_edited c.plain (take k l.edits) e ≡ u → column_in u.table i ≡ Some Text → v ≡ bytes_at (rows_listed c l.edits) u i → slice_get (cells_edited c.plain e) i ≡ Some (text v)
    → is_among (texts_of_edit (rows_listed c l.edits) e) v ≡ true
brings_text c l k (Add table owner cells code points) u i v s there row own at is h = text_of_added table cells code i v h
brings_text c l k (Replace method code points) u i v s there row own at is h =
    let land = lands c l k (Replace method code points) u s.none there row (sym own) in
    let table : u.table ≡ 6 = ap (λ (t : Token). t.table) (sym own) ∙ land.0 in
    let name : i ≡ 3 = the_text i (subst (λ t. column_in t i ≡ Some Text) table at) in
    let value : bytes_at (rows_listed c l.edits) method 3 ≡ v = ap (λ (t : Token). bytes_at (rows_listed c l.edits) t 3) own ∙ ap (bytes_at (rows_listed c l.edits) u) (sym name) ∙ sym is in
    let six : (method.table == 6) ≡ true = rw land.0 refl in
    rw (six, value) (is_itself v)

brings_blob : (c : Chain) (l : EditList) (k : ℕ) (e : Edit) (u : Token) (i : ℕ) (v : List ℕ) → IsStated c l u → slice_get l.edits k ≡ Some e → slice_get (rows_edited c.plain l.edits) k ≡ Some u
    → row_edited c.plain (take k l.edits) e ≡ u → column_in u.table i ≡ Some Blob → v ≡ bytes_at (rows_listed c l.edits) u i → slice_get (cells_edited c.plain e) i ≡ Some (blob v)
    → is_among (blobs_of_edit (rows_listed c l.edits) e) v ≡ true
brings_blob c l k (Add table owner cells code points) u i v s there row own at is h = blob_of_added table cells code i v h
brings_blob c l k (Replace method code points) u i v s there row own at is h =
    let land = lands c l k (Replace method code points) u s.none there row (sym own) in
    let table : u.table ≡ 6 = ap (λ (t : Token). t.table) (sym own) ∙ land.0 in
    let name : i ≡ 4 = the_blob i (subst (λ t. column_in t i ≡ Some Blob) table at) in
    let value : bytes_at (rows_listed c l.edits) method 4 ≡ v = ap (λ (t : Token). bytes_at (rows_listed c l.edits) t 4) own ∙ ap (bytes_at (rows_listed c l.edits) u) (sym name) ∙ sym is in
    let six : (method.table == 6) ≡ true = rw land.0 refl in
    rw (six, value) (is_itself v)

edit_at : (c : Chain) (l : EditList) (u : Token) → is_edited c.plain l.edits u ≡ true → IsEditOf c.plain [] l.edits u (cells_written c.plain l.edits u)
edit_at c l u about = edit_found c.plain [] l.edits u (cells_written c.plain l.edits u) (given c.plain l.edits u about)

pub text_is_kept : (c : Chain) (l : EditList) (u : Token) (i : ℕ) → MayFollow c l → is_edited c.plain l.edits u ≡ true → column_in u.table i ≡ Some Text
    → is_kept (heaps_written c l).texts (bytes_at (rows_listed c l.edits) u i) ≡ true
text_is_kept c l u i may about at =
    let s = is_stated c l u may about in
    let w = edit_at c l u about in
    let v = bytes_at (rows_listed c l.edits) u i in
    let own = some_same _ _ (sym (row_there c.plain l.edits w.at w.edit w.there) ∙ w.row) in
    let cell : slice_get (cells_edited c.plain w.edit) i ≡ Some (text v) = ap (λ (cells : List Cell). slice_get cells i) (sym w.gives) ∙ text_stated c l u i s (text_kind u.table i at) in
    text_brought c l w.at w.edit v w.there (brings_text c l w.at w.edit u i v s w.there w.row own at refl cell)

pub blob_is_kept : (c : Chain) (l : EditList) (u : Token) (i : ℕ) → MayFollow c l → is_edited c.plain l.edits u ≡ true → column_in u.table i ≡ Some Blob
    → is_kept (heaps_written c l).blobs (bytes_at (rows_listed c l.edits) u i) ≡ true
blob_is_kept c l u i may about at =
    let s = is_stated c l u may about in
    let w = edit_at c l u about in
    let v = bytes_at (rows_listed c l.edits) u i in
    let own = some_same _ _ (sym (row_there c.plain l.edits w.at w.edit w.there) ∙ w.row) in
    let cell : slice_get (cells_edited c.plain w.edit) i ≡ Some (blob v) = ap (λ (cells : List Cell). slice_get cells i) (sym w.gives) ∙ blob_stated c l u i s (blob_kind u.table i at) in
    blob_brought c l w.at w.edit v w.there (brings_blob c l w.at w.edit u i v s w.there w.row own at refl cell)
