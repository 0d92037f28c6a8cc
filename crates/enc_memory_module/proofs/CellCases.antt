-- What stands in a column of a row after edits: a stated value, a body that was given, or what stood there.
use Rattle.std.proofs.Common.{◌≡◌, ℕ, zero, suc, ◌<◌, Bool, true, false, List, [], ◌∷◌, length, Option, Some, None, refl, sym, ap, ◌∙◌, arith, subst}
use Rattle.std.specs.Prelude.{slice_get, ◌==◌, ◌&&◌, nat_lt, nat_le, option_map, option_and_then, unwrap_or, is_some}
use Rattle.std.proofs.lemmas.Bool.Decides.{nat_tests}
use Rattle.enc_base.specs.declared.token.Token.{Token}
use Rattle.enc_schema.specs.declared.column.Column.{Column}
use Rattle.enc_schema.specs.Schema.{column_in}
use Rattle.enc_plain.specs.Cell.{Cell, body, kind_of, is_body, is_field}
use Rattle.enc_plain.specs.Chain.{Chain}
use Rattle.enc_plain.specs.Module.{Module, Row, rows_in, row_at, row_of, has_row, cells_of, cell_of}
use Rattle.enc_plain.specs.Rows.{cell_at}
use Rattle.enc_plain.specs.Sound.{HasTables}
use Rattle.enc_plain.proofs.KindsOf.{row_there}
use Rattle.enc_edit_list.specs.declared.body.BodyValue.{BodyValue}
use Rattle.enc_edit_list.specs.declared.edit.Cell.{Cell as CellValue}
use Rattle.enc_edit_list.specs.declared.edit.Edit.{Edit}
use Rattle.enc_edit_list.specs.declared.edit.Edit.TheVariants.{Add, Body as Replace}
use Rattle.enc_edit_list.specs.declared.edit.EditList.{EditList}
use Rattle.enc_edit_list.specs.Form.{cell_fits, list_fits}
use Rattle.enc_rules.specs.Edited.{row_edited, rows_edited, cell_stated, body_stated, cells_stated, cells_edited, cells_with, edited}
use Rattle.enc_rules.specs.Listed.{count_after, body_given}
use Rattle.enc_rules.specs.Rules.{value_breaks}
use Rattle.enc_memory_module.proofs.Unbroken.{BreakNothing}
use Rattle.enc_memory_module.proofs.Landed.{lands}
use Rattle.enc_memory_module.proofs.Changed.{IsRow, changed, kept, row_is}
use Rattle.enc_memory_module.proofs.AddedRow.{IsAdd, add_is, no_field_rva, HasValue, plain_value, method_value}
use Rattle.enc_memory_module.proofs.Agreed.{row_at_place}

-- an edit gives a method this body, or none
pub record GivesBody (c : Chain) (l : EditList) (u : Token) (b : Option BodyValue) : Type 0 where
  pub at : ℕ
  pub edit : Edit
  pub there : slice_get l.edits at ≡ Some edit
  pub row : slice_get (rows_edited c.plain l.edits) at ≡ Some u
  pub given : body_given edit ≡ b

pub data CellCase (c : Chain) (l : EditList) (u : Token) (i : ℕ) (column : Column) (x : Cell) : Type 0 where
  stated : (v : CellValue) → x ≡ cell_stated v → cell_fits column v ≡ true → value_breaks (count_after c l.edits) column v ≡ false → is_body u.table i ≡ false → is_field u.table i ≡ false → (u.table == 0) ≡ false → CellCase c l u i column x
  given : (b : Option BodyValue) → x ≡ body (option_map body_stated b) → u.table ≡ 6 → i ≡ 0 → GivesBody c l u b → CellCase c l u i column x
  old : has_row c.plain u ≡ true → cell_of c.plain u i ≡ Some x → CellCase c l u i column x

-- a cell by the cells of its row
pub cell_of_cells : (m : Module) (u : Token) (i : ℕ) → cell_of m u i ≡ cell_at (cells_of m) u i
unfolding cell_of
cell_of_cells m u i = by_row (row_of m u)
  where
    by_row : (o : Option Row) → option_and_then (λ (r : Row). slice_get r.cells i) o ≡ option_and_then (λ (cells : List Cell). slice_get cells i) (option_map (λ (r : Row). r.cells) o)
    by_row None = refl
    by_row (Some r) = refl

cells_some : (o : Option (List Cell)) (i : ℕ) (x : Cell) → option_and_then (λ (cells : List Cell). slice_get cells i) o ≡ Some x → (cells : List Cell) × (o ≡ Some cells) × (slice_get cells i ≡ Some x)
cells_some None i x h = absurd cc
cells_some (Some cells) i x h = (cells, refl, h)

-- a row with cells is there
pub there_by_cells : (m : Module) (u : Token) (cells : List Cell) → cells_of m u ≡ Some cells → has_row m u ≡ true
unfolding has_row row_of
there_by_cells m u cells h = by_place (u.row) h
  where
    within : (rows : List Row) (n : ℕ) (o : Option Row) → slice_get rows n ≡ o → option_map (λ (r : Row). r.cells) o ≡ Some cells → n < length rows
    within [] n None e g = absurd cc
    within [] n (Some r) e g = absurd cc
    within (r ∷ rows) zero o e g = omega arith
    within (r ∷ rows) (suc n) o e g = let w = within rows n o e g in omega (arith, w)

    by_place : (row : ℕ) → option_map (λ (r : Row). r.cells) (row_at (rows_in m u.table) row) ≡ Some cells → (nat_lt 0 row && nat_le row (length (rows_in m u.table))) ≡ true
    by_place zero g = absurd cc
    by_place (suc n) g =
        let few = within (rows_in m u.table) n (slice_get (rows_in m u.table) n) refl g in
        let a : nat_lt 0 (suc n) ≡ true = grind (arith, nat_tests) in
        let b : nat_le (suc n) (length (rows_in m u.table)) ≡ true = grind (arith, nat_tests, few) in
        rw (a, b) refl

same_some : {A : Type 0} (a b : A) → Some a ≡ Some b → a ≡ b
same_some a b h = cc

-- of an added row
of_value : (c : Chain) (l : EditList) (u : Token) (i table : ℕ) (column : Column) (x : Cell) (all : List Cell) → u.table ≡ table → (table == 0) ≡ false → is_body table i ≡ false → is_field table i ≡ false → HasValue (count_after c l.edits) table i column all → slice_get all i ≡ Some x → CellCase c l u i column x
of_value c l u i table column x all is own nobody nofield w h =
    stated w.value (same_some x (cell_stated w.value) (sym h ∙ w.there)) w.fits w.unbroken (rw is nobody) (rw is nofield) (rw is own)

of_method : (c : Chain) (l : EditList) (u : Token) (i k : ℕ) (owner : Token) (cells : _) (code : _) (points : _) (column : Column) (x : Cell) → IsAdd c l k 6 owner cells code points u → u.table ≡ 6 → column_in 6 i ≡ Some column → is_some (kind_of column) ≡ true → slice_get (cells_stated 6 cells code) i ≡ Some x → CellCase c l u i column x
unfolding cells_stated
of_method c l u zero k owner cells code points column x add is e kind h =
    given code (sym (same_some (body (option_map body_stated code)) x h)) is refl (record { at = k; edit = Add 6 owner cells code points; there = add.there; row = add.row; given = refl })
of_method c l u (suc i) k owner cells code points column x add is e kind h =
    let later : (suc i == 0) ≡ false = grind (arith, nat_tests) in
    let nobody : is_body 6 (suc i) ≡ false = rw later refl in
    of_value c l u (suc i) 6 column x (cells_stated 6 cells code) is refl nobody refl (method_value (count_after c l.edits) i column cells code add.fits add.unbroken e kind) h

of_added : (c : Chain) (l : EditList) (u : Token) (i k table : ℕ) (owner : Token) (cells : _) (code : _) (points : _) (column : Column) (x : Cell) (b : Bool) → (table == 6) ≡ b → IsAdd c l k table owner cells code points u → u.table ≡ table → column_in table i ≡ Some column → is_some (kind_of column) ≡ true → slice_get (cells_stated table cells code) i ≡ Some x → CellCase c l u i column x
of_added c l u i k table owner cells code points column x true six add is e kind h =
    let t : table ≡ 6 = grind (arith, nat_tests, six) in
    of_method c l u i k owner cells code points column x (subst (λ n. IsAdd c l k n owner cells code points u) t add) (is ∙ t) (subst (λ n. column_in n i ≡ Some column) t e) kind (subst (λ n. slice_get (cells_stated n cells code) i ≡ Some x) t h)
of_added c l u i k table owner cells code points column x false six add is e kind h =
    let rva = no_field_rva table add.changes in
    let nobody : is_body table i ≡ false = rw six refl in
    let nofield : is_field table i ≡ false = rw rva refl in
    of_value c l u i table column x (cells_stated table cells code) is add.own nobody nofield (plain_value (count_after c l.edits) table i column cells code six rva add.fits add.unbroken e kind) h

-- of a method whose body is replaced
of_replaced : (c : Chain) (l : EditList) (u : Token) (i k : ℕ) (code : BodyValue) (points : _) (column : Column) (x : Cell) (old_cells : Option (List Cell)) → u.table ≡ 6 → has_row c.plain u ≡ true → cells_of c.plain u ≡ old_cells → slice_get l.edits k ≡ Some (Replace u code points) → slice_get (rows_edited c.plain l.edits) k ≡ Some u → slice_get (cells_with (body_stated code) (unwrap_or old_cells [])) i ≡ Some x → CellCase c l u i column x
of_replaced c l u i k code points column x None is has cells there row h = absurd cc
of_replaced c l u i k code points column x (Some []) is has cells there row h = absurd cc
of_replaced c l u zero k code points column x (Some (y ∷ ys)) is has cells there row h =
    given (Some code) (sym (same_some (body (Some (body_stated code))) x h)) is refl (record { at = k; edit = Replace u code points; there = there; row = row; given = refl })
of_replaced c l u (suc i) k code points column x (Some (y ∷ ys)) is has cells there row h =
    old has (cell_of_cells c.plain u (suc i) ∙ (rw cells h))

pub edit_table : (c : Chain) (l : EditList) (k table : ℕ) (owner : Token) (cells : _) (code : _) (points : _) (u : Token) → slice_get l.edits k ≡ Some (Add table owner cells code points) → slice_get (rows_edited c.plain l.edits) k ≡ Some u → u.table ≡ table
edit_table c l k table owner cells code points u there row =
    ap (λ (t : Token). t.table) (same_some u (row_edited c.plain _ (Add table owner cells code points)) (sym row ∙ row_at_place c.plain l.edits k (Add table owner cells code points) there))

by_edit : (c : Chain) (l : EditList) (u : Token) (i k : ℕ) (e : Edit) (column : Column) (x : Cell) → list_fits l ≡ true → BreakNothing c l → slice_get l.edits k ≡ Some e → slice_get (rows_edited c.plain l.edits) k ≡ Some u → column_in u.table i ≡ Some column → is_some (kind_of column) ≡ true → slice_get (cells_edited c.plain e) i ≡ Some x → CellCase c l u i column x
by_edit c l u i k (Add table owner cells code points) column x form none there row e kind h =
    let t = edit_table c l k table owner cells code points u there row in
    of_added c l u i k table owner cells code points column x (table == 6) refl (add_is c l k table owner cells code points u form none there row) t (subst (λ n. column_in n i ≡ Some column) t e) kind h
by_edit c l u i k (Replace method code points) column x form none there row e kind h =
    let same : method ≡ u = same_some method u (sym (row_at_place c.plain l.edits k (Replace method code points) there) ∙ row) in
    let land = lands c l k (Replace method code points) u none there row (sym same) in
    let has : has_row c.plain method ≡ true = row_there c.plain method land.1 (rw land.0 land.2) in
    of_replaced c l u i k code points column x (cells_of c.plain u) (ap (λ (t : Token). t.table) (sym same) ∙ land.0) (rw (← same) has) refl (subst (λ t. slice_get l.edits k ≡ Some (Replace t code points)) same there) row (subst (λ t. slice_get (cells_with (body_stated code) (unwrap_or (cells_of c.plain t) [])) i ≡ Some x) same h)

by_row : (c : Chain) (l : EditList) (u : Token) (i : ℕ) (column : Column) (x : Cell) (cells : List Cell) → list_fits l ≡ true → BreakNothing c l → column_in u.table i ≡ Some column → is_some (kind_of column) ≡ true → slice_get cells i ≡ Some x → IsRow c l u cells → CellCase c l u i column x
by_row c l u i column x cells form none e kind h (changed w) = by_edit c l u i w.at w.edit column x form none w.there w.row e kind (subst (λ cs. slice_get cs i ≡ Some x) w.gives h)
by_row c l u i column x cells form none e kind h (kept w) = old (there_by_cells c.plain u cells w) (cell_of_cells c.plain u i ∙ (rw w h))

-- what stands in a column that has a cell
pub cell_case : (c : Chain) (l : EditList) (u : Token) (i : ℕ) (column : Column) (x : Cell) → HasTables c.plain → list_fits l ≡ true → BreakNothing c l → column_in u.table i ≡ Some column → is_some (kind_of column) ≡ true → cell_of (edited c.plain l.edits) u i ≡ Some x → CellCase c l u i column x
cell_case c l u i column x has form none e kind h =
    let w = cells_some (cells_of (edited c.plain l.edits) u) i x (sym (cell_of_cells (edited c.plain l.edits) u i) ∙ h) in
    by_row c l u i column x w.0 form none e kind w.2 (row_is c l u w.0 has none w.1)
