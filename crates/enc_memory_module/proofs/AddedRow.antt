-- The cells of a row that an edit adds.
use Rattle.std.proofs.Common.{◌≡◌, ℕ, zero, suc, Bool, true, false, List, [], ◌∷◌, map, drop, Option, Some, refl, ap, ◌∙◌, arith, subst}
use Rattle.std.specs.Prelude.{slice_get, ◌==◌, ◌&&◌, ◌||◌, not, is_some, filter}
use Rattle.std.specs.List.{list_all}
use Rattle.std.proofs.lemmas.Bool.{false≢true}
use Rattle.std.proofs.lemmas.Bool.Decides.{nat_tests}
use Rattle.enc_base.specs.declared.token.Token.{Token}
use Rattle.enc_schema.specs.declared.column.Column.{Column}
use Rattle.enc_schema.specs.Schema.{columns_in, column_in, schema}
use Rattle.enc_plain.specs.Cell.{Cell, kind_of}
use Rattle.enc_plain.specs.Chain.{Chain}
use Rattle.enc_plain.proofs.Columns.{runs_last, all_last, each}
use Rattle.enc_seqpoints.specs.declared.point.Point.{Point}
use Rattle.enc_edit_list.specs.declared.body.BodyValue.{BodyValue}
use Rattle.enc_edit_list.specs.declared.edit.Cell.{Cell as CellValue}
use Rattle.enc_edit_list.specs.declared.edit.Edit.{Edit}
use Rattle.enc_edit_list.specs.declared.edit.Edit.TheVariants.{Add}
use Rattle.enc_edit_list.specs.declared.edit.EditList.{EditList}
use Rattle.enc_edit_list.specs.Form.{is_stated, begins_with_rva, stated_columns, is_known_table, owner_fits, cells_fit, code_fits, edit_fits, list_fits}
use Rattle.enc_delta.specs.Rules.{may_change}
use Rattle.enc_rules.specs.Edited.{rows_edited, cell_stated, cells_stated}
use Rattle.enc_rules.specs.Listed.{count_after}
use Rattle.enc_rules.specs.Rules.{cells_break, table_breaks, table_is_closed, token_breaks, token_is_missing}
use Rattle.enc_memory_module.proofs.Unbroken.{BreakNothing}
use Rattle.enc_memory_module.proofs.Stated.{stated_at, value_at}

-- what holds of an edit that adds a row
pub record IsAdd (c : Chain) (l : EditList) (k table : ℕ) (owner : Token) (cells : List CellValue) (code : Option BodyValue) (points : List Point) (t : Token) : Type 0 where
  pub there : slice_get l.edits k ≡ Some (Add table owner cells code points)
  pub row : slice_get (rows_edited c.plain l.edits) k ≡ Some t
  pub changes : may_change table ≡ true
  pub own : (table == 0) ≡ false
  pub fits : cells_fit (stated_columns table) cells ≡ true
  pub owned : owner_fits table owner ≡ true
  pub coded : code_fits table code points ≡ true
  pub unbroken : cells_break (count_after c l.edits) (stated_columns table) cells ≡ false

neither : (a b : Bool) → (a || b) ≡ false → (a ≡ false) × (b ≡ false)
neither false b h = (refl, h)
neither true b h = absurd cc

not_false : (b : Bool) → not b ≡ false → b ≡ true
not_false true h = refl
not_false false h = absurd cc

four : (a b d e : Bool) → (a && b && d && e) ≡ true → (b ≡ true) × (d ≡ true) × (e ≡ true)
four true true true e h = (refl, refl, h)
four true true false e h = absurd cc
four true false d e h = absurd cc
four false b d e h = absurd cc

of_all : {A : Type 0} (f : A → Bool) (xs : List A) (k : ℕ) (x : A) → list_all f xs ≡ true → slice_get xs k ≡ Some x → f x ≡ true
of_all f [] k x all h = absurd cc
of_all f (y ∷ xs) zero x all h = let e : y ≡ x = cc in rw (← e) (one (f y) (list_all f xs) all)
  where
    one : (a b : Bool) → (a && b) ≡ true → a ≡ true
    one true b h = refl
    one false b h = absurd cc
of_all f (y ∷ xs) (suc k) x all h = of_all f xs k x (two (f y) (list_all f xs) all) h
  where
    two : (a b : Bool) → (a && b) ≡ true → b ≡ true
    two true b h = h
    two false b h = absurd cc

pub form_at : (l : EditList) (k : ℕ) (e : Edit) → list_fits l ≡ true → slice_get l.edits k ≡ Some e → edit_fits e ≡ true
unfolding list_fits
form_at l k e all h = of_all edit_fits l.edits k e all h

pub add_is : (c : Chain) (l : EditList) (k table : ℕ) (owner : Token) (cells : List CellValue) (code : Option BodyValue) (points : List Point) (t : Token) → list_fits l ≡ true → BreakNothing c l → slice_get l.edits k ≡ Some (Add table owner cells code points) → slice_get (rows_edited c.plain l.edits) k ≡ Some t → IsAdd c l k table owner cells code points t
unfolding table_is_closed token_is_missing edit_fits
add_is c l k table owner cells code points t form none there row =
    let shut : table_breaks (Add table owner cells code points) ≡ false = rw (there, row) at (none.tables k) in
    let two = neither (not (may_change table)) _ shut in
    let parts = four (is_known_table table) (owner_fits table owner) (cells_fit (stated_columns table) cells) (code_fits table code points) (form_at l k (Add table owner cells code points) form there) in
    record {
      there = there;
      row = row;
      changes = not_false (may_change table) two.0;
      own = let f = (neither (0 == table) _ two.1).0 in grind (arith, nat_tests, f);
      fits = parts.1;
      owned = parts.0;
      coded = parts.2;
      unbroken = rw (there, row) at (none.tokens k);
    }

-- the table isn't FieldRVA
pub no_field_rva : (table : ℕ) → may_change table ≡ true → (table == 0x1D) ≡ false
no_field_rva table h = by_test (table == 0x1D) refl
  where
    by_test : (b : Bool) → (table == 0x1D) ≡ b → b ≡ false
    by_test false e = refl
    by_test true e = let is : table ≡ 0x1D = grind (arith, nat_tests, e) in absurd (false≢true (subst (λ n. may_change n ≡ true) is h))

-- the value of a column with a cell that is no body
pub record HasValue (count : ℕ → ℕ) (table i : ℕ) (column : Column) (all : List Cell) : Type 0 where
  pub value : CellValue
  pub there : slice_get all i ≡ Some (cell_stated value)
  pub fits : Rattle.enc_edit_list.specs.Form.cell_fits column value ≡ true
  pub unbroken : Rattle.enc_rules.specs.Rules.value_breaks count column value ≡ false

mapped : (vs : List CellValue) (i : ℕ) (v : CellValue) → slice_get vs i ≡ Some v → slice_get (map cell_stated vs) i ≡ Some (cell_stated v)
mapped [] i v h = absurd cc
mapped (x ∷ vs) zero v h = let e : x ≡ v = cc in ap (λ y. Some (cell_stated y)) e
mapped (x ∷ vs) (suc i) v h = mapped vs i v h

columns_last : (table : ℕ) → runs_last (columns_in table) ≡ true
unfolding columns_in runs_last
columns_last table = each runs_last schema table all_last refl

-- of a table whose rows begin with no place of bytes
pub cells_plain : (table : ℕ) (cells : List CellValue) (code : Option BodyValue) → (table == 6) ≡ false → (table == 0x1D) ≡ false → cells_stated table cells code ≡ map cell_stated cells
unfolding cells_stated
cells_plain table cells code six rva = rw (six, rva) refl

pub columns_plain : (table : ℕ) → (table == 6) ≡ false → (table == 0x1D) ≡ false → stated_columns table ≡ filter is_stated (columns_in table)
unfolding stated_columns
columns_plain table six rva = rw (six, rva) refl

pub plain_value : (count : ℕ → ℕ) (table i : ℕ) (column : Column) (cells : List CellValue) (code : Option BodyValue) → (table == 6) ≡ false → (table == 0x1D) ≡ false → cells_fit (stated_columns table) cells ≡ true → cells_break count (stated_columns table) cells ≡ false → column_in table i ≡ Some column → is_some (kind_of column) ≡ true → HasValue count table i column (cells_stated table cells code)
plain_value count table i column cells code six rva fits unbroken e k =
    let cols = columns_plain table six rva in
    let w = value_at count (filter is_stated (columns_in table)) cells i column (subst (λ cs. cells_fit cs cells ≡ true) cols fits) (subst (λ cs. cells_break count cs cells ≡ false) cols unbroken) (stated_at (columns_in table) i column (columns_last table) e k) in
    record { value = w.value; there = ap (λ cs. slice_get cs i) (cells_plain table cells code six rva) ∙ mapped cells i w.value w.there; fits = w.fits; unbroken = w.unbroken }

tail_last : runs_last (drop 1 (columns_in 6)) ≡ true
unfolding columns_in runs_last
tail_last = refl

behind_first : (i : ℕ) (column : Column) → column_in 6 (suc i) ≡ Some column → slice_get (drop 1 (columns_in 6)) i ≡ Some column
unfolding columns_in
behind_first i column h = h

-- of MethodDef, behind the body
pub method_value : (count : ℕ → ℕ) (i : ℕ) (column : Column) (cells : List CellValue) (code : Option BodyValue) → cells_fit (stated_columns 6) cells ≡ true → cells_break count (stated_columns 6) cells ≡ false → column_in 6 (suc i) ≡ Some column → is_some (kind_of column) ≡ true → HasValue count 6 (suc i) column (cells_stated 6 cells code)
unfolding stated_columns cells_stated
method_value count i column cells code fits unbroken e k =
    let w = value_at count (filter is_stated (drop 1 (columns_in 6))) cells i column fits unbroken (stated_at (drop 1 (columns_in 6)) i column tail_last (behind_first i column e) k) in
    record { value = w.value; there = mapped cells i w.value w.there; fits = w.fits; unbroken = w.unbroken }
