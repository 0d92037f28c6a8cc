-- Texts have no zeros: those of cells by the form of the list, and those of the chain's rows since its module is sound.
use Rattle.std.proofs.Common.{◌≡◌, ℕ, zero, suc, ◌-◌, Bool, true, false, List, [], ◌∷◌, ◌++◌, map, length, get_or, ◌<◌, Option, Some, None, refl, ◌∙◌, inl, inr}
use Rattle.std.specs.Prelude.{◌&&◌, ◌⊎◌, flat_map, slice_get, option_map, nat_lt}
use Rattle.std.specs.List.{list_all}
use Rattle.std.proofs.lemmas.Bool.{and_from}
use Rattle.enc_base.specs.Order.{or_else}
use Rattle.enc_base.specs.declared.token.Token.{Token}
use Rattle.enc_schema.specs.declared.column.Column.{Column}
use Rattle.enc_schema.specs.declared.column.Column.TheVariants.{Num8, Num16, Num32, Text, Guid, Blob, Index, Coded, Run}
use Rattle.enc_schema.specs.Schema.{columns_in, column_in}
use Rattle.enc_seqpoints.specs.declared.point.Point.{Point}
use Rattle.enc_plain.specs.Cell.{Cell, number, text, blob, guid, refer, body, field, texts, blobs, kind_in, cell_kind}
use Rattle.enc_plain.specs.Chain.{Chain, rows_before}
use Rattle.enc_plain.specs.Module.{Module, has_row, cell_of, cells_of}
use Rattle.enc_plain.specs.Rows.{bytes_of_cell, bytes_at, cell_at}
use Rattle.enc_plain.specs.Sound.{IsSound, cell_is_sound}
use Rattle.enc_plain.proofs.CellsOf.{text_there, bytes_absent}
use Rattle.enc_plain.proofs.Columns.{both_left, both_right}
use Rattle.enc_edit_list.specs.Added.{adds_to, adding}
use Rattle.enc_edit_list.specs.Form.{cell_fits, cells_fit, stated_columns, edit_fits, list_fits, is_known_table, owner_fits, code_fits}
use Rattle.enc_edit_list.specs.declared.body.BodyValue.{BodyValue}
use Rattle.enc_edit_list.specs.declared.edit.Cell.{Cell as CellValue}
use Rattle.enc_edit_list.specs.declared.edit.Cell.TheVariants as cell
use Rattle.enc_edit_list.specs.declared.edit.Edit.{Edit}
use Rattle.enc_edit_list.specs.declared.edit.Edit.TheVariants.{Add, Body as Replace}
use Rattle.enc_edit_list.specs.declared.edit.EditList.{EditList}
use Rattle.enc_rules.specs.Edited.{cell_stated, cells_stated}
use Rattle.enc_rules.specs.Filled.{has_no_zero, have_no_zero}
use Rattle.enc_rules.specs.Listed.{edit_of, cells_added, rows_listed}
use Rattle.enc_rules.specs.Rules.{texts_in_cell}
use Rattle.enc_rules.proofs.EditAt.{edit_there as edit_there_at}
use Rattle.enc_rules.proofs.TwinsByTable.{nowhere, passing, equal_numbers}

two : (b : Bool) → (b ≡ true) ⊎ (b ≡ false)
two true = inl refl
two false = inr refl

-- a cell that fits its column
one_whole : (c : Column) (v : CellValue) → cell_fits c v ≡ true → have_no_zero (texts_in_cell v) ≡ true
one_whole c (cell.Num n) h = refl
one_whole c (cell.Blob b) h = refl
one_whole c (cell.Guid g) h = refl
one_whole c (cell.Refer t) h = refl
one_whole Text (cell.Text t) h = and_from _ _ h refl
one_whole Num8 (cell.Text t) h = absurd (cc)
one_whole Num16 (cell.Text t) h = absurd (cc)
one_whole Num32 (cell.Text t) h = absurd (cc)
one_whole Blob (cell.Text t) h = absurd (cc)
one_whole Guid (cell.Text t) h = absurd (cc)
one_whole (Index n) (cell.Text t) h = absurd (cc)
one_whole (Coded k) (cell.Text t) h = absurd (cc)
one_whole (Run n) (cell.Text t) h = absurd (cc)

joined : (xs ys : List (List ℕ)) → have_no_zero xs ≡ true → have_no_zero ys ≡ true → have_no_zero (xs ++ ys) ≡ true
joined [] ys h i = i
joined (x ∷ xs) ys h i = and_from _ _ (both_left (has_no_zero x) (have_no_zero xs) h) (joined xs ys (both_right (has_no_zero x) (have_no_zero xs) h) i)

fits_whole : (columns : List Column) (cells : List CellValue) → cells_fit columns cells ≡ true → have_no_zero (flat_map texts_in_cell cells) ≡ true
unfolding cells_fit
fits_whole [] [] h = refl
fits_whole [] (v ∷ cells) h = absurd (cc)
fits_whole (c ∷ columns) [] h = absurd (cc)
fits_whole (c ∷ columns) (v ∷ cells) h =
    joined (texts_in_cell v) (flat_map texts_in_cell cells) (one_whole c v (both_left (cell_fits c v) (cells_fit columns cells) h)) (fits_whole columns cells (both_right (cell_fits c v) (cells_fit columns cells) h))

add_fits : (table : ℕ) (owner : Token) (cells : List CellValue) (code : Option BodyValue) (points : List Point) → edit_fits (Add table owner cells code points) ≡ true → cells_fit (stated_columns table) cells ≡ true
unfolding edit_fits
add_fits table owner cells code points h =
    both_right (is_known_table table && owner_fits table owner) (cells_fit (stated_columns table) cells)
    (both_left (is_known_table table && owner_fits table owner && cells_fit (stated_columns table) cells) (code_fits table code points) h)

-- the texts of an added row
pub added_whole : (table : ℕ) (owner : Token) (cells : List CellValue) (code : Option BodyValue) (points : List Point) → edit_fits (Add table owner cells code points) ≡ true → have_no_zero (flat_map texts_in_cell cells) ≡ true
added_whole table owner cells code points h = fits_whole (stated_columns table) cells (add_fits table owner cells code points h)

third : (x y z w : Bool) → (x && (y && (z && w))) ≡ true → z ≡ true
third x y z w h = both_left z w (both_right y (z && w) (both_right x (y && (z && w)) h))

-- the name of an added method
name_fits : (cells : List CellValue) → cells_fit (stated_columns 0x06) cells ≡ true → has_no_zero (bytes_of_cell (slice_get (map cell_stated cells) 2)) ≡ true
unfolding cells_fit stated_columns columns_in
name_fits [] h = refl
name_fits (a ∷ []) h = refl
name_fits (a ∷ b ∷ []) h = refl
name_fits (a ∷ b ∷ cell.Num n ∷ rest) h = refl
name_fits (a ∷ b ∷ cell.Guid n ∷ rest) h = refl
name_fits (a ∷ b ∷ cell.Refer n ∷ rest) h = refl
name_fits (a ∷ b ∷ cell.Blob t ∷ rest) h = let f : false ≡ true = third (cell_fits Num16 a) (cell_fits Num16 b) false (cells_fit (Blob ∷ []) rest) h in absurd (cc)
name_fits (a ∷ b ∷ cell.Text t ∷ rest) h = third (cell_fits Num16 a) (cell_fits Num16 b) (has_no_zero t) (cells_fit (Blob ∷ []) rest) h

name_added : (table : ℕ) (cells : List CellValue) (code : Option BodyValue) → table ≡ 0x06 → cells_fit (stated_columns table) cells ≡ true → has_no_zero (bytes_of_cell (slice_get (cells_stated table cells code) 3)) ≡ true
unfolding cells_stated
name_added table cells code is h = rw is (name_fits cells (rw is at h))

all_there : (edits : List Edit) (j : ℕ) (e : Edit) → list_all edit_fits edits ≡ true → slice_get edits j ≡ Some e → edit_fits e ≡ true
all_there [] j e h there = absurd (nowhere j e there)
all_there (x ∷ xs) zero e h there = let same : x ≡ e = cc in rw (← same) (both_left (edit_fits x) (list_all edit_fits xs) h)
all_there (x ∷ xs) (suc j) e h there = all_there xs j e (both_right (edit_fits x) (list_all edit_fits xs) h) there

name_of_added : (t : Token) (e : Edit) → t.table ≡ 0x06 → adds_to t.table e ≡ true → edit_fits e ≡ true → has_no_zero (bytes_of_cell (slice_get (cells_added e) 3)) ≡ true
name_of_added t (Add table owner cells code points) is adds fits = name_added table cells code (equal_numbers table t.table adds ∙ is) (add_fits table owner cells code points fits)
name_of_added t (Replace method code points) is adds fits = absurd (cc)

-- the name of a method that the chain has
name_kind : (o : Option Cell) (m : Module) (t : Token) → option_map cell_kind o ≡ Some texts → ((c : Cell) → o ≡ Some c → cell_is_sound m t Text c ≡ true) → (x : List ℕ) × (o ≡ Some (text x)) × (has_no_zero x ≡ true)
name_kind None m t h sound = absurd (cc)
name_kind (Some (text x)) m t h sound = (x, refl, sound (text x) refl)
name_kind (Some (number x)) m t h sound = absurd (cc)
name_kind (Some (blob x)) m t h sound = absurd (cc)
name_kind (Some (guid x)) m t h sound = absurd (cc)
name_kind (Some (refer x)) m t h sound = absurd (cc)
name_kind (Some (body x)) m t h sound = absurd (cc)
name_kind (Some (field x)) m t h sound = absurd (cc)

pub method_name : (t : ℕ) → t ≡ 0x06 → kind_in t 3 ≡ Some texts
unfolding columns_in
method_name t e = rw e refl

pub method_signature : (t : ℕ) → t ≡ 0x06 → kind_in t 4 ≡ Some blobs
unfolding columns_in
method_signature t e = rw e refl

name_column : (t : ℕ) → t ≡ 0x06 → column_in t 3 ≡ Some Text
unfolding columns_in
name_column t e = rw e refl

name_there : (m : Module) (t : Token) → IsSound m → t.table ≡ 0x06 → has_no_zero (bytes_at (cells_of m) t 3) ≡ true
name_there m t sound is = elim (two (has_row m t)) [
  | inl has ↦
      let w = name_kind (cell_of m t 3) m t (sound.kinds.kinds t 3 texts has (method_name t.table is)) (λ c there. sound.cells.each t 3 Text c has (name_column t.table is) there) in
      rw (← text_there m t 3 w.0 w.1) w.2
  | inr none ↦ rw (← bytes_absent m t 3 none) refl
]

edit_there : (c : Chain) (edits : List Edit) (t : Token) (e : Edit) → edit_of c edits t ≡ Some e → (j : ℕ) × (slice_get edits j ≡ Some e) × (adds_to t.table e ≡ true)
unfolding edit_of adding
edit_there c edits t e some = elim (two (nat_lt (rows_before c t.table) t.row)) [
  | inl a ↦ passing (adds_to t.table) edits (t.row - rows_before c t.table - 1) e (rw a at some)
  | inr a ↦ absurd (cc (rw a at some))
]

pub name_whole : (c : Chain) (l : EditList) (t : Token) → IsSound c.plain → list_fits l ≡ true → t.table ≡ 0x06 → has_no_zero (bytes_at (rows_listed c l.edits) t 3) ≡ true
unfolding rows_listed bytes_at list_fits
name_whole c l t sound fits is = go (edit_of c l.edits t) refl
  where
    go : (o : Option Edit) → edit_of c l.edits t ≡ o → has_no_zero (bytes_of_cell (cell_at (λ u. or_else (option_map cells_added (edit_of c l.edits u)) (cells_of c.plain u)) t 3)) ≡ true
    go None none = rw none (name_there c.plain t sound is)
    go (Some e) some =
        let w = edit_there c l.edits t e some in
        rw some (name_of_added t e is w.2 (all_there l.edits w.0 e fits w.1))

-- each edit of a list of the form has its form
pub edit_formed : (l : EditList) (edits : List Edit) (k : ℕ) (e : Edit) → list_fits l ≡ true → edits ≡ l.edits → k < length edits → e ≡ get_or edits k e → edit_fits e ≡ true
unfolding list_fits
edit_formed l edits k e fits are low there = all_there l.edits k e fits (edit_there_at l edits k e are low there)
