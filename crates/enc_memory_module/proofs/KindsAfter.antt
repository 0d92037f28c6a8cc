-- Each row has a cell of its kind in each column after edits.
use Rattle.std.proofs.Common.{◌≡◌, ℕ, zero, suc, ◌+◌, ◌<◌, Bool, true, false, List, [], ◌∷◌, length, Option, Some, None, refl, sym, ap, ◌∙◌, arith, subst}
use Rattle.std.specs.Prelude.{slice_get, ◌==◌, option_map, option_and_then, unwrap_or, is_some, filter, if◌then◌else◌}
use Rattle.std.proofs.lemmas.Bool.Decides.{nat_tests}
use Rattle.std.proofs.lemmas.List.{length-map}
use Rattle.enc_base.specs.Token.{nth_row}
use Rattle.enc_base.specs.declared.token.Token.{Token}
use Rattle.enc_opcodes.specs.Body.{Body}
use Rattle.enc_schema.specs.declared.column.Column.{Column}
use Rattle.enc_schema.specs.declared.column.Column.TheVariants.{Num32}
use Rattle.enc_schema.specs.Schema.{columns_in, column_in}
use Rattle.enc_plain.specs.Cell.{Cell, Kind, bodies, fields, kind_of, cell_kind, cell_count, is_body, is_field, kind_in}
use Rattle.enc_plain.specs.Chain.{Chain}
use Rattle.enc_plain.specs.Module.{Module, Row, rows_in, row_at, row_of, has_row, cells_of, cell_of}
use Rattle.enc_plain.specs.Sound.{HasTables, HasKinds}
use Rattle.enc_plain.proofs.CellsOf.{has_cells}
use Rattle.enc_plain.proofs.Columns.{column_with, in_cells}
use Rattle.enc_plain.proofs.KindsOf.{row_there}
use Rattle.enc_edit_list.specs.declared.edit.Cell.{Cell as CellValue}
use Rattle.enc_edit_list.specs.declared.edit.Edit.{Edit}
use Rattle.enc_edit_list.specs.declared.edit.Edit.TheVariants.{Add, Body as Replace}
use Rattle.enc_edit_list.specs.declared.edit.EditList.{EditList}
use Rattle.enc_edit_list.specs.Form.{is_stated, stated_columns, cells_fit, list_fits}
use Rattle.enc_rules.specs.Edited.{rows_edited, cell_stated, cells_stated, cells_edited, cells_with, body_stated, edited}
use Rattle.enc_memory_module.proofs.Unbroken.{BreakNothing}
use Rattle.enc_memory_module.proofs.Landed.{lands}
use Rattle.enc_memory_module.proofs.Changed.{IsRow, changed, kept, row_is}
use Rattle.enc_memory_module.proofs.Stated.{stated_is, fit_length, kind_fits}
use Rattle.enc_memory_module.proofs.AddedRow.{IsAdd, add_is, no_field_rva, cells_plain, columns_plain}
use Rattle.enc_memory_module.proofs.Agreed.{row_at_place}
use Rattle.enc_memory_module.proofs.CellCases.{CellCase, stated, given, old, cell_of_cells, cell_case, edit_table}

-- each row has as many cells as columns with one
abbrev HasLengths : Module → Type 0
HasLengths m = (t n : ℕ) (r : Row) → slice_get (rows_in m t) n ≡ Some r → length r.cells ≡ cell_count t

same_some : {A : Type 0} (a b : A) → Some a ≡ Some b → a ≡ b
same_some a b h = cc

-- and so has a token's row
cells_length : (m : Module) (u : Token) (cells : List Cell) → HasLengths m → cells_of m u ≡ Some cells → length cells ≡ cell_count u.table
unfolding row_of
cells_length m u cells has h = by_place u.row h
  where
    by_row : (n : ℕ) (o : Option Row) → slice_get (rows_in m u.table) n ≡ o → option_map (λ (r : Row). r.cells) o ≡ Some cells → length cells ≡ cell_count u.table
    by_row n None is g = absurd cc
    by_row n (Some r) is g = rw (← same_some r.cells cells g) (has u.table n r is)

    by_place : (row : ℕ) → option_map (λ (r : Row). r.cells) (row_at (rows_in m u.table) row) ≡ Some cells → length cells ≡ cell_count u.table
    by_place zero g = absurd cc
    by_place (suc n) g = by_row n (slice_get (rows_in m u.table) n) refl g

-- the columns that are stated are those with kinds
one_more : (b : Bool) (x : Column) (xs ys : List Column) → length xs ≡ length ys → length (if b then x ∷ xs else xs) ≡ length (if b then x ∷ ys else ys)
one_more true x xs ys h = ap suc h
one_more false x xs ys h = h

as_many : (cs : List Column) → length (filter is_stated cs) ≡ length (filter (λ (d : Column). is_some (kind_of d)) cs)
as_many [] = refl
as_many (x ∷ xs) = rw (stated_is x) (one_more (is_some (kind_of x)) x (filter is_stated xs) (filter (λ (d : Column). is_some (kind_of d)) xs) (as_many xs))

-- an added row's cells
plain_length : (table : ℕ) (cells : List CellValue) (code : _) → (table == 6) ≡ false → (table == 0x1D) ≡ false → cells_fit (stated_columns table) cells ≡ true → length (cells_stated table cells code) ≡ cell_count table
plain_length table cells code six rva fits =
    ap length (cells_plain table cells code six rva) ∙ length-map cells cell_stated ∙ fit_length (stated_columns table) cells fits ∙ ap length (columns_plain table six rva) ∙ as_many (columns_in table)

five : suc (length (stated_columns 6)) ≡ cell_count 6
unfolding stated_columns columns_in
five = refl

method_length : (cells : List CellValue) (code : _) → cells_fit (stated_columns 6) cells ≡ true → length (cells_stated 6 cells code) ≡ cell_count 6
unfolding cells_stated
method_length cells code fits = ap suc (length-map cells cell_stated ∙ fit_length (stated_columns 6) cells fits) ∙ five

added_length : (c : Chain) (l : EditList) (k table : ℕ) (owner : Token) (cells : _) (code : _) (points : _) (u : Token) (b : Bool) → (table == 6) ≡ b → IsAdd c l k table owner cells code points u → length (cells_stated table cells code) ≡ cell_count table
added_length c l k table owner cells code points u true six add =
    let t : table ≡ 6 = grind (arith, nat_tests, six) in
    subst (λ n. cells_fit (stated_columns n) cells ≡ true → length (cells_stated n cells code) ≡ cell_count n) (sym t) (method_length cells code) add.fits
added_length c l k table owner cells code points u false six add = plain_length table cells code six (no_field_rva table add.changes) add.fits

-- a method with another body has as many cells as before
with_length : (b : Body) (cells : List Cell) → length (cells_with b cells) ≡ length cells
with_length b [] = refl
with_length b (x ∷ cells) = refl

replaced_length : (m : Module) (method : Token) (b : Body) (o : Option (List Cell)) → HasLengths m → cells_of m method ≡ o → is_some o ≡ true → length (cells_with b (unwrap_or o [])) ≡ cell_count method.table
replaced_length m method b None has is some = absurd cc
replaced_length m method b (Some cells) has is some = with_length b cells ∙ cells_length m method cells has is

edit_length : (c : Chain) (l : EditList) (k : ℕ) (e : Edit) (u : Token) → HasLengths c.plain → list_fits l ≡ true → BreakNothing c l → slice_get l.edits k ≡ Some e → slice_get (rows_edited c.plain l.edits) k ≡ Some u → length (cells_edited c.plain e) ≡ cell_count u.table
edit_length c l k (Add table owner cells code points) u has form none there row =
    rw (edit_table c l k table owner cells code points u there row) (added_length c l k table owner cells code points u (table == 6) refl (add_is c l k table owner cells code points u form none there row))
edit_length c l k (Replace method code points) u has form none there row =
    let same : method ≡ u = same_some method u (sym (row_at_place c.plain l.edits k (Replace method code points) there) ∙ row) in
    let land = lands c l k (Replace method code points) u none there row (sym same) in
    let some : has_row c.plain method ≡ true = row_there c.plain method land.1 (rw land.0 land.2) in
    rw (← same) (replaced_length c.plain method (body_stated code) (cells_of c.plain method) has refl (sym (has_cells c.plain method) ∙ some))

-- the row at a place has the cells of its token
cells_at : (m : Module) (t n : ℕ) (r : Row) → slice_get (rows_in m t) n ≡ Some r → cells_of m (nth_row t n) ≡ Some r.cells
unfolding row_of
cells_at m t n r e =
    let f : n + 1 ≡ suc n = omega arith in
    rw (f, e) refl

length_by : (c : Chain) (l : EditList) (u : Token) (cells : List Cell) → HasLengths c.plain → list_fits l ≡ true → BreakNothing c l → IsRow c l u cells → length cells ≡ cell_count u.table
length_by c l u cells has form none (changed w) = ap length w.gives ∙ edit_length c l w.at w.edit u has form none w.there w.row
length_by c l u cells has form none (kept w) = cells_length c.plain u cells has w

lengths_after : (c : Chain) (l : EditList) → HasTables c.plain → HasLengths c.plain → list_fits l ≡ true → BreakNothing c l → HasLengths (edited c.plain l.edits)
lengths_after c l tables has form none = λ t n r e. length_by c l (nth_row t n) r.cells has form none (row_is c l (nth_row t n) r.cells tables none (cells_at (edited c.plain l.edits) t n r e))

-- the column of a cell of this kind has a kind too
kinded_by : (table i : ℕ) (k : Kind) (b f : Bool) → is_body table i ≡ b → is_field table i ≡ f → (if b then Some bodies else if f then Some fields else option_and_then kind_of (column_in table i)) ≡ Some k → (column : Column) × (column_in table i ≡ Some column) × (is_some (kind_of column) ≡ true)
unfolding columns_in
kinded_by table i k true f b1 f1 h =
    let t : table ≡ 0x06 = grind (arith, nat_tests) in
    let z : i ≡ 0 = grind (arith, nat_tests) in
    (Num32, rw (t, z) refl, refl)
kinded_by table i k false true b1 f1 h =
    let t : table ≡ 0x1D = grind (arith, nat_tests) in
    let z : i ≡ 0 = grind (arith, nat_tests) in
    (Num32, rw (t, z) refl, refl)
kinded_by table i k false false b1 f1 h = let w = column_with (column_in table i) k h in (w.0, w.1, rw w.2 refl)

-- where a cell has a kind, there is a column with a kind
pub kinded : (table i : ℕ) (k : Kind) → kind_in table i ≡ Some k → (column : Column) × (column_in table i ≡ Some column) × (is_some (kind_of column) ≡ true)
kinded table i k h = kinded_by table i k (is_body table i) (is_field table i) refl refl h

-- an item within a list is there
item_at : {A : Type 0} (xs : List A) (i : ℕ) → i < length xs → (x : A) × (slice_get xs i ≡ Some x)
item_at [] i h = absurd (omega arith)
item_at (x ∷ xs) zero h = (x, refl)
item_at (x ∷ xs) (suc i) h = item_at xs i (omega arith)

some_of : {A : Type 0} (o : Option A) → is_some o ≡ true → (x : A) × (o ≡ Some x)
some_of None h = absurd cc
some_of (Some x) h = (x, refl)

-- so a cell stands in each such column of a row
cell_exists : (m : Module) (u : Token) (i : ℕ) (column : Column) → HasLengths m → has_row m u ≡ true → column_in u.table i ≡ Some column → is_some (kind_of column) ≡ true → (x : Cell) × (cell_of m u i ≡ Some x)
cell_exists m u i column has there e kind =
    let cells = some_of (cells_of m u) (sym (has_cells m u) ∙ there) in
    let many = cells_length m u cells.0 has cells.1 in
    let low = in_cells u.table i column e kind in
    let x = item_at cells.0 i (omega (arith, many, low)) in
    (x.0, cell_of_cells m u i ∙ ap (λ o. option_and_then (λ (own : List Cell). slice_get own i) o) cells.1 ∙ x.1)

-- the kind of a column without a body and without bytes of a field
plain_is : (table i : ℕ) (column : Column) → is_body table i ≡ false → is_field table i ≡ false → column_in table i ≡ Some column → kind_in table i ≡ kind_of column
plain_is table i column nobody nofield e = rw (nobody, nofield, e) refl

kind_by : (c : Chain) (l : EditList) (u : Token) (i : ℕ) (k : Kind) (column : Column) (x : Cell) → HasKinds c.plain → kind_in u.table i ≡ Some k → column_in u.table i ≡ Some column → CellCase c l u i column x → Some (cell_kind x) ≡ Some k
kind_by c l u i k column x before kind e (stated v is fits unbroken nobody nofield own) =
    ap (λ y. Some (cell_kind y)) is ∙ sym (kind_fits column v fits) ∙ sym (plain_is u.table i column nobody nofield e) ∙ kind
kind_by c l u i k column x before kind e (given b is table zero_ w) =
    ap (λ y. Some (cell_kind y)) is ∙ (rw (table, zero_) at kind)
kind_by c l u i k column x before kind e (old there is) = ap (λ o. option_map cell_kind o) (sym is) ∙ before.kinds u i k there kind

one_kind : (c : Chain) (l : EditList) (u : Token) (i : ℕ) (k : Kind) → HasTables c.plain → HasKinds c.plain → list_fits l ≡ true → BreakNothing c l → has_row (edited c.plain l.edits) u ≡ true → kind_in u.table i ≡ Some k → option_map cell_kind (cell_of (edited c.plain l.edits) u i) ≡ Some k
one_kind c l u i k tables before form none there kind =
    let w = kinded u.table i k kind in
    let x = cell_exists (edited c.plain l.edits) u i w.0 (lengths_after c l tables before.lengths form none) there w.1 w.2 in
    ap (λ o. option_map cell_kind o) x.1 ∙ kind_by c l u i k w.0 x.0 before kind w.1 (cell_case c l u i w.0 x.0 tables form none w.1 w.2 x.1)

-- after edits each row has as many cells as columns with one, each of its column's kind
pub kinds_after : (c : Chain) (l : EditList) → HasTables c.plain → HasKinds c.plain → list_fits l ≡ true → BreakNothing c l → HasKinds (edited c.plain l.edits)
kinds_after c l tables before form none = record { lengths = lengths_after c l tables before.lengths form none; kinds = λ u i k there kind. one_kind c l u i k tables before form none there kind }
