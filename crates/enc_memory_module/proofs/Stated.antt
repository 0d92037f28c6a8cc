-- What stands in the columns of an added row: the value that is stated for each, of its column's kind.
use Rattle.std.proofs.Common.{◌≡◌, ℕ, zero, suc, Bool, true, false, List, [], ◌∷◌, length, Some, refl, sym, ap, ◌∙◌}
use Rattle.std.specs.Prelude.{slice_get, ◌||◌, not, is_some, filter, if◌then◌else◌}
use Rattle.std.specs.List.{list_all}
use Rattle.enc_schema.specs.declared.column.Column.{Column}
use Rattle.enc_schema.specs.declared.column.Column.TheVariants.{Num8, Num16, Num32, Text, Guid, Blob, Index, Coded, Run}
use Rattle.enc_plain.specs.Cell.{kind_of, cell_kind}
use Rattle.enc_plain.proofs.Columns.{runs_last, none_last, both_left, both_right}
use Rattle.enc_edit_list.specs.declared.edit.Cell.{Cell as CellValue}
use Rattle.enc_edit_list.specs.declared.edit.Cell.TheVariants as cell
use Rattle.enc_edit_list.specs.Form.{is_stated, begins_with_rva, cell_fits, cells_fit}
use Rattle.enc_rules.specs.Edited.{cell_stated}
use Rattle.enc_rules.specs.Rules.{value_breaks, cells_break}

-- a column is stated exactly where it has a kind
pub stated_is : (c : Column) → is_stated c ≡ is_some (kind_of c)
stated_is Num8 = refl
stated_is Num16 = refl
stated_is Num32 = refl
stated_is Text = refl
stated_is Guid = refl
stated_is Blob = refl
stated_is (Index t) = refl
stated_is (Coded k) = refl
stated_is (Run t) = refl

-- the columns with kinds stand in front, so each keeps its place among those that are stated
kept_at : (x : Column) (xs : List Column) (i : ℕ) (c : Column) (b : Bool) → is_stated x ≡ b → (if is_some (kind_of x) then runs_last xs else list_all (λ (d : Column). not (is_some (kind_of d))) xs) ≡ true → slice_get xs i ≡ Some c → is_some (kind_of c) ≡ true → (runs_last xs ≡ true → slice_get (filter is_stated xs) i ≡ Some c) → slice_get (if b then x ∷ filter is_stated xs else filter is_stated xs) (suc i) ≡ Some c
kept_at x xs i c true is last e k more = more (rw (sym (stated_is x) ∙ is) at last)
kept_at x xs i c false is last e k more = absurd (none_last xs i c (rw (sym (stated_is x) ∙ is) at last) e k)

first_at : (x c : Column) (xs : List Column) (b : Bool) → is_stated x ≡ b → x ≡ c → is_some (kind_of c) ≡ true → slice_get (if b then x ∷ filter is_stated xs else filter is_stated xs) 0 ≡ Some c
first_at x c xs true is e k = ap (λ y. Some y) e
first_at x c xs false is e k = let f : true ≡ false = sym k ∙ (rw (← e) (sym (stated_is x) ∙ is)) in absurd cc

pub stated_at : (xs : List Column) (i : ℕ) (c : Column) → runs_last xs ≡ true → slice_get xs i ≡ Some c → is_some (kind_of c) ≡ true → slice_get (filter is_stated xs) i ≡ Some c
unfolding runs_last
stated_at [] i c last e k = absurd cc
stated_at (x ∷ xs) zero c last e k = let is : x ≡ c = cc in first_at x c xs (is_stated x) refl is k
stated_at (x ∷ xs) (suc i) c last e k = kept_at x xs i c (is_stated x) refl last e k (λ l. stated_at xs i c l e k)

-- as many values as columns
pub fit_length : (cs : List Column) (vs : List CellValue) → cells_fit cs vs ≡ true → length vs ≡ length cs
unfolding cells_fit
fit_length [] [] h = refl
fit_length [] (v ∷ vs) h = absurd cc
fit_length (c ∷ cs) [] h = absurd cc
fit_length (c ∷ cs) (v ∷ vs) h = ap suc (fit_length cs vs (both_right (cell_fits c v) (cells_fit cs vs) h))

-- the value of a column, which fits it and breaks no rule
pub record IsValue (count : ℕ → ℕ) (c : Column) (vs : List CellValue) (i : ℕ) : Type 0 where
  pub value : CellValue
  pub there : slice_get vs i ≡ Some value
  pub fits : cell_fits c value ≡ true
  pub unbroken : value_breaks count c value ≡ false

neither : (a b : Bool) → (a || b) ≡ false → (a ≡ false) × (b ≡ false)
neither false b h = (refl, h)
neither true b h = absurd cc

pub value_at : (count : ℕ → ℕ) (cs : List Column) (vs : List CellValue) (i : ℕ) (c : Column) → cells_fit cs vs ≡ true → cells_break count cs vs ≡ false → slice_get cs i ≡ Some c → IsValue count c vs i
unfolding cells_fit cells_break
value_at count [] vs i c fit none e = absurd cc
value_at count (x ∷ cs) [] i c fit none e = absurd cc
value_at count (x ∷ cs) (v ∷ vs) zero c fit none e =
    let is : x ≡ c = cc in
    record { value = v; there = refl; fits = rw (← is) (both_left (cell_fits x v) (cells_fit cs vs) fit); unbroken = rw (← is) ((neither (value_breaks count x v) (cells_break count cs vs) none).0) }
value_at count (x ∷ cs) (v ∷ vs) (suc i) c fit none e =
    let w = value_at count cs vs i c (both_right (cell_fits x v) (cells_fit cs vs) fit) ((neither (value_breaks count x v) (cells_break count cs vs) none).1) e in
    record { value = w.value; there = w.there; fits = w.fits; unbroken = w.unbroken }

-- the cell of a value is of its column's kind
pub kind_fits : (c : Column) (v : CellValue) → cell_fits c v ≡ true → kind_of c ≡ Some (cell_kind (cell_stated v))
kind_fits Num8 (cell.Num n) h = refl
kind_fits Num16 (cell.Num n) h = refl
kind_fits Num32 (cell.Num n) h = refl
kind_fits Text (cell.Text b) h = refl
kind_fits Blob (cell.Blob b) h = refl
kind_fits Guid (cell.Guid g) h = refl
kind_fits (Index t) (cell.Refer u) h = refl
kind_fits (Coded k) (cell.Refer u) h = refl
kind_fits _ _ h = absurd cc

-- the columns behind an RVA
pub front_of : ℕ → ℕ
front_of table = if begins_with_rva table then 1 else 0

last_behind : (n : ℕ) (x : Column) (xs : List Column) → runs_last (x ∷ xs) ≡ true → is_some (kind_of x) ≡ true → runs_last xs ≡ true
unfolding runs_last
last_behind n x xs last k = rw k at last
