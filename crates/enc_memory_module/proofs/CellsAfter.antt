-- What each cell says fits its column after edits.
use Rattle.std.proofs.Common.{◌≡◌, ℕ, zero, suc, ◌<◌, ◌≤◌, Bool, true, false, List, [], ◌∷◌, take, drop, Option, Some, None, refl, sym, ap, ◌∙◌, inl, inr, arith}
use Rattle.std.specs.Prelude.{◌==◌, ◌&&◌, ◌||◌, not, nat_le, is_some, slice_get, option_map, option_and_then, if◌then◌else◌}
use Rattle.std.specs.List.{list_all}
use Rattle.std.proofs.lemmas.Bool.{false≢true, or_cases, and_parts, and_from}
use Rattle.std.proofs.lemmas.Bool.Decides.{nat_tests}
use Rattle.enc_base.specs.Token.{nil, is_token}
use Rattle.enc_base.specs.declared.token.Token.{Token}
use Rattle.enc_schema.specs.declared.column.Column.{Column}
use Rattle.enc_schema.specs.declared.column.Column.TheVariants.{Num8, Num16, Num32, Text, Guid, Blob, Index, Coded, Run}
use Rattle.enc_schema.specs.Schema.{list_at, schema, columns_in, column_in}
use Rattle.enc_plain.specs.Cell.{Cell, number, text, blob, guid, refer, body, field, bodies, fields, kind_of, cell_kind, is_body, is_field}
use Rattle.enc_plain.specs.Chain.{Chain}
use Rattle.enc_plain.specs.Module.{Module, has_row, cell_of}
use Rattle.enc_plain.specs.Sound.{row_count, can_name, is_reference, cell_is_sound, HasTables, HasCounts, HasKinds, HasCells}
use Rattle.enc_plain.proofs.Columns.{both_left, both_right}
use Rattle.enc_plain.proofs.KindsOf.{kind_of_cell, row_table, row_there}
use Rattle.enc_edit_list.specs.declared.body.BodyValue.{BodyValue}
use Rattle.enc_edit_list.specs.declared.edit.Cell.{Cell as CellValue}
use Rattle.enc_edit_list.specs.declared.edit.Cell.TheVariants as cell
use Rattle.enc_edit_list.specs.declared.edit.EditList.{EditList}
use Rattle.enc_edit_list.specs.Form.{cell_fits, list_fits}
use Rattle.enc_rules.specs.Edited.{cell_stated, body_stated, edited}
use Rattle.enc_rules.specs.Listed.{count_after}
use Rattle.enc_rules.specs.Rules.{names_row, value_breaks}
use Rattle.enc_memory_module.proofs.Unbroken.{BreakNothing}
use Rattle.enc_memory_module.proofs.BodiesAfter.{old_body, given_body}
use Rattle.enc_memory_module.proofs.CellCases.{CellCase, stated, given, old, GivesBody, cell_case}
use Rattle.enc_memory_module.proofs.FieldsAfter.{old_field}
use Rattle.enc_memory_module.proofs.Grown.{count_is, row_stays}
use Rattle.enc_memory_module.proofs.KindsAfter.{kinded}

-- of the tables of a module only Module has a column of GUIDs
abbrev is_guid : Column → Bool
is_guid Guid = true
is_guid _ = false

abbrev has_none : List Column → Bool
has_none columns = list_all (λ (c : Column). not (is_guid c)) columns

within : (xs : List (List Column)) (n t : ℕ) → list_all has_none (take n xs) ≡ true → t < n → has_none (list_at xs t) ≡ true
within [] n t all low = refl
within (x ∷ xs) zero t all low = absurd (omega (arith, low))
within (x ∷ xs) (suc n) zero all low = both_left (has_none x) (list_all has_none (take n xs)) all
within (x ∷ xs) (suc n) (suc t) all low = within xs n t (both_right (has_none x) (list_all has_none (take n xs)) all) (omega (arith, low))

behind : (xs : List (List Column)) (t : ℕ) → list_at xs (suc t) ≡ list_at (drop 1 xs) t
behind [] t = refl
behind (x ∷ xs) t = refl

none_behind : list_all has_none (take 0x2C (drop 1 schema)) ≡ true
none_behind = refl

not_among : (columns : List Column) (i : ℕ) → has_none columns ≡ true → slice_get columns i ≡ Some Guid → ⊥
not_among [] i none e = absurd cc
not_among (x ∷ xs) zero none e = let is : x ≡ Guid = cc in let f : not (is_guid x) ≡ true = both_left (not (is_guid x)) (has_none xs) none in absurd (false≢true (rw is at f))
not_among (x ∷ xs) (suc i) none e = not_among xs i (both_right (not (is_guid x)) (has_none xs) none) e

no_guids : (table i : ℕ) → (table == 0) ≡ false → table < 0x2D → column_in table i ≡ Some Guid → ⊥
unfolding columns_in
no_guids zero i own low e = absurd cc
no_guids (suc t) i own low e = not_among (list_at schema (suc t)) i (ap has_none (behind schema t) ∙ within (drop 1 schema) 0x2C t none_behind (omega (arith, low))) e

-- a stated token that names a row is nil, or a row after edits
either : (a b : Bool) → (a ≡ false → b ≡ true) → (a || b) ≡ true
either true b h = refl
either false b h = h refl

named_row : (m : Module) (count : ℕ → ℕ) (column : Column) (t : Token) → row_count m t.table ≡ count t.table → (t.row == 0) ≡ false → (can_name column t.table && nat_le t.row (count t.table)) ≡ true → (can_name column t.table && has_row m t) ≡ true
named_row m count column t same some h =
    let a = and_parts (can_name column t.table) (nat_le t.row (count t.table)) h in
    let low : 0 < t.row = grind (arith, nat_tests, some) in
    let high : t.row ≤ count t.table = grind (arith, nat_tests, a) in
    and_from (can_name column t.table) (has_row m t) a.0 (row_there m t low (omega (arith, high, same)))

reference_by : (m : Module) (count : ℕ → ℕ) (column : Column) (t : Token) (b : Bool) → ((k : ℕ) → row_count m k ≡ count k) → (t.row == 0) ≡ b → (b || can_name column t.table && nat_le t.row (count t.table)) ≡ true → is_reference m column (if b then nil else t) ≡ true
unfolding is_reference
reference_by m count column t true same is h = refl
reference_by m count column t false same is h = either (is_token t nil) (can_name column t.table && has_row m t) (λ other. named_row m count column t (same t.table) is h)

unbroken : (b : Bool) → not b ≡ false → b ≡ true
unbroken true h = refl
unbroken false h = absurd cc

-- a stated value fits
stated_fits : (m : Module) (u : Token) (count : ℕ → ℕ) (i : ℕ) (column : Column) (v : CellValue) → ((k : ℕ) → row_count m k ≡ count k) → (column ≡ Guid → ⊥) → cell_fits column v ≡ true → value_breaks count column v ≡ false → cell_is_sound m u column (cell_stated v) ≡ true
stated_fits m u count i Num8 (cell.Num n) same own fits none = fits
stated_fits m u count i Num16 (cell.Num n) same own fits none = fits
stated_fits m u count i Num32 (cell.Num n) same own fits none = fits
stated_fits m u count i Text (cell.Text b) same own fits none = fits
stated_fits m u count i Blob (cell.Blob b) same own fits none = refl
stated_fits m u count i Guid (cell.Guid g) same own fits none = absurd (own refl)
stated_fits m u count i (Index t) (cell.Refer r) same own fits none = reference_by m count (Index t) r (r.row == 0) same refl (unbroken (names_row count (Index t) r) none)
stated_fits m u count i (Coded k) (cell.Refer r) same own fits none = reference_by m count (Coded k) r (r.row == 0) same refl (unbroken (names_row count (Coded k) r) none)
stated_fits m u count i _ _ same own fits none = absurd cc

-- a body that is given is sound
given_fits : (c : Chain) (l : EditList) (u : Token) (column : Column) (b : Option BodyValue) → HasTables c.plain → BreakNothing c l → GivesBody c l u b → cell_is_sound (edited c.plain l.edits) u column (body (option_map body_stated b)) ≡ true
given_fits c l u column None has none w = refl
given_fits c l u column (Some b) has none w = given_body c l u b has none w

-- what stood there still fits
old_reference : (c : Chain) (l : EditList) (column : Column) (t : Token) → HasTables c.plain → BreakNothing c l → is_reference c.plain column t ≡ true → is_reference (edited c.plain l.edits) column t ≡ true
unfolding is_reference
old_reference c l column t has none h =
    elim (or_cases (is_token t nil) (can_name column t.table && has_row c.plain t) h) [
      | inl empty ↦ rw empty refl
      | inr some ↦ let a = and_parts (can_name column t.table) (has_row c.plain t) some in either (is_token t nil) _ (λ other. and_from (can_name column t.table) (has_row (edited c.plain l.edits) t) a.0 (row_stays c l t has none a.1))
    ]

field_by : (table i : ℕ) (b f : Bool) (o : Option Column) → is_field table i ≡ f → (if b then Some bodies else if f then Some fields else option_and_then kind_of o) ≡ Some fields → table ≡ 0x1D
field_by table i true f o is h = absurd cc
field_by table i false true o is h = grind (arith, nat_tests, is)
field_by table i false false None is h = absurd cc
field_by table i false false (Some Num8) is h = absurd cc
field_by table i false false (Some Num16) is h = absurd cc
field_by table i false false (Some Num32) is h = absurd cc
field_by table i false false (Some Text) is h = absurd cc
field_by table i false false (Some Guid) is h = absurd cc
field_by table i false false (Some Blob) is h = absurd cc
field_by table i false false (Some (Index t)) is h = absurd cc
field_by table i false false (Some (Coded k)) is h = absurd cc
field_by table i false false (Some (Run t)) is h = absurd cc

old_fits : (c : Chain) (l : EditList) (u : Token) (i : ℕ) (column : Column) (x : Cell) → HasTables c.plain → BreakNothing c l → HasKinds c.plain → HasCells c.plain → has_row c.plain u ≡ true → column_in u.table i ≡ Some column → cell_of c.plain u i ≡ Some x → cell_is_sound c.plain u column x ≡ true → cell_is_sound (edited c.plain l.edits) u column x ≡ true
old_fits c l u i column (number n) has none kinds cells row e is h = h
old_fits c l u i column (text there) has none kinds cells row e is h = h
old_fits c l u i column (blob there) has none kinds cells row e is h = h
old_fits c l u i column (guid there) has none kinds cells row e is h = h
old_fits c l u i column (refer t) has none kinds cells row e is h = old_reference c l column t has none h
old_fits c l u i column (body None) has none kinds cells row e is h = refl
old_fits c l u i column (body (Some b)) has none kinds cells row e is h = old_body c l u b has none row h
old_fits c l u i column (field bytes) has none kinds cells row e is h =
    let kind = kind_of_cell c.plain u i column (field bytes) kinds row e is in
    old_field c l u bytes has none kinds cells row (field_by u.table i (is_body u.table i) (is_field u.table i) (column_in u.table i) refl kind) h

fits_by : (c : Chain) (l : EditList) (u : Token) (i : ℕ) (column : Column) (x : Cell) → HasTables c.plain → BreakNothing c l → HasKinds c.plain → HasCells c.plain → u.table < 0x2D → column_in u.table i ≡ Some column → CellCase c l u i column x → cell_is_sound (edited c.plain l.edits) u column x ≡ true
fits_by c l u i column x has none kinds cells low e (stated v is fits unbroken_value nobody nofield own) =
    rw is (stated_fits (edited c.plain l.edits) u (count_after c l.edits) i column v (λ k. count_is c l k has none) (λ g. no_guids u.table i own low (e ∙ ap (λ y. Some y) g)) fits unbroken_value)
fits_by c l u i column x has none kinds cells low e (given b is table first w) = rw is (given_fits c l u column b has none w)
fits_by c l u i column x has none kinds cells low e (old row is) = old_fits c l u i column x has none kinds cells row e is (cells.each u i column x row e is)

one_column : (a b : Column) → Some a ≡ Some b → a ≡ b
one_column a b h = cc

-- the column of a cell has a kind
kind_there : (m : Module) (u : Token) (i : ℕ) (column : Column) (x : Cell) → HasKinds m → has_row m u ≡ true → column_in u.table i ≡ Some column → cell_of m u i ≡ Some x → is_some (kind_of column) ≡ true
kind_there m u i column x kinds there e is =
    let w = kinded u.table i (cell_kind x) (kind_of_cell m u i column x kinds there e is) in
    let same : column ≡ w.0 = one_column column w.0 (sym e ∙ w.1) in
    rw same w.2

one_fits : (c : Chain) (l : EditList) (u : Token) (i : ℕ) (column : Column) (x : Cell) → HasTables c.plain → list_fits l ≡ true → BreakNothing c l → HasKinds c.plain → HasCells c.plain → HasTables (edited c.plain l.edits) → HasCounts (edited c.plain l.edits) → HasKinds (edited c.plain l.edits) → has_row (edited c.plain l.edits) u ≡ true → column_in u.table i ≡ Some column → cell_of (edited c.plain l.edits) u i ≡ Some x → cell_is_sound (edited c.plain l.edits) u column x ≡ true
one_fits c l u i column x has form none kinds cells tables_new counts_new kinds_new there e is =
    fits_by c l u i column x has none kinds cells (row_table (edited c.plain l.edits) u tables_new counts_new there).1 e (cell_case c l u i column x has form none e (kind_there (edited c.plain l.edits) u i column x kinds_new there e is) is)

-- so each cell fits its column after edits
pub cells_fit_after : (c : Chain) (l : EditList) → HasTables c.plain → list_fits l ≡ true → BreakNothing c l → HasKinds c.plain → HasCells c.plain → HasTables (edited c.plain l.edits) → HasCounts (edited c.plain l.edits) → HasKinds (edited c.plain l.edits) → HasCells (edited c.plain l.edits)
cells_fit_after c l has form none kinds cells tables_new counts_new kinds_new = record { each = λ u i column x there e is. one_fits c l u i column x has form none kinds cells tables_new counts_new kinds_new there e is }
