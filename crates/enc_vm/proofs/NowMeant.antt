-- The code that a method has now means the body and the points that it has in the module and the PDB.
use Rattle.std.proofs.Common.{◌≡◌, ℕ, zero, suc, Bool, true, false, ◌&&◌, List, [], ◌∷◌, length, Option, Some, None, IsTrue, IfSome, refl, sym, ap, ◌∙◌, inl, inr, arith, is_some, if◌then◌else◌, ◌==◌, option_map, option_and_then, slice_get, filter}
use Rattle.std.proofs.lemmas.Bool.Decides.{nat_tests}
use Rattle.enc_base.specs.declared.token.Token.{Token}
use Rattle.enc_machine_types.specs.Members.{call_shape, run_body, if_runs, runs_body, method_body, body_of_cell}
use Rattle.enc_opcodes.specs.Body.{Body, body_of}
use Rattle.enc_plain.proofs.CellsOf.{has_cells}
use Rattle.enc_plain.proofs.Columns.{part_cases}
use Rattle.enc_plain.proofs.KindsOf.{kind_of_cell}
use Rattle.enc_plain.specs.Cell.{Cell, Kind, number, text, blob, guid, refer, body, field, bodies, fields, kind_of, is_field, kind_in, cell_kind}
use Rattle.enc_plain.specs.Debug.{PlainPdb}
use Rattle.enc_plain.specs.Module.{Module, Row, has_row, rows_in, row_at, row_of, cell_of}
use Rattle.enc_plain.specs.Sound.{IsSound, HasKinds}
use Rattle.enc_schema.specs.Schema.{columns_in, column_in}
use Rattle.enc_base.specs.Tables.{method_def}
use Rattle.enc_schema.specs.declared.column.Column.{Column}
use Rattle.enc_schema.specs.declared.column.Column.TheVariants.{Num8, Num16, Num32, Text, Guid, Blob, Index, Coded, Run}
use Rattle.enc_versions.specs.StandFor.{MethodLines, lines_read, lines_known, AreVersionsOf}
use Rattle.enc_versions.specs.Version.{Version, newest_of}
use Rattle.enc_frames.specs.Machine.{code_now, code_meant}

-- where no body is run, there is no code in either machine
none_now : (users : ℕ → Option (List ℕ)) (m : Module) (debug : PlainPdb) (methods : List (Option Version)) (method : Token) (o : Option Body)
    → o ≡ None → option_map (λ (b : Body). record { body = b; points = (lines_known (debug method)).points }) o
    ≡ option_map (code_meant users) (if is_some o then newest_of methods method else None)
none_now users m debug methods method o e = rw e refl

no_body : (m : Module) (method : Token) → method_body m method ≡ None → run_body m method ≡ None
unfolding run_body
no_body m method e = ap (λ (o : Option Body). if is_some (call_shape m method) then if_runs m o else None) e ∙ none_either (is_some (call_shape m method))
  where
    none_either : (b : Bool) → (if b then if_runs m None else None) ≡ None
    none_either true = refl
    none_either false = refl

-- a cell of another column than that of bodies is none
other_kind : (o : Option Column) (f : Bool) → (if f then Some fields else option_and_then kind_of o) ≡ Some bodies → ⊥
other_kind o true h = absurd cc
other_kind None false h = absurd cc
other_kind (Some Num8) false h = absurd cc
other_kind (Some Num16) false h = absurd cc
other_kind (Some Num32) false h = absurd cc
other_kind (Some Text) false h = absurd cc
other_kind (Some Guid) false h = absurd cc
other_kind (Some Blob) false h = absurd cc
other_kind (Some (Index t)) false h = absurd cc
other_kind (Some (Coded k)) false h = absurd cc
other_kind (Some (Run t)) false h = absurd cc

not_bodies : (table : ℕ) → (table == method_def) ≡ false → kind_in table 0 ≡ Some bodies → ⊥
not_bodies table e h = other_kind (column_in table 0) (is_field table 0) (rw (other_test (table == method_def) e) at h)
  where
    other_test : (b : Bool) → b ≡ false → (b && true) ≡ false
    other_test b e = rw e refl

-- nor has a row of a table without columns a cell
no_columns : (cs : List Column) → slice_get cs 0 ≡ None → length (filter (λ (c : Column). is_some (kind_of c)) cs) ≡ 0
no_columns [] e = refl
no_columns (c ∷ cs) e = absurd cc

none_first : {A : Type 0} (xs : List A) → length xs ≡ 0 → slice_get xs 0 ≡ None
none_first [] e = refl
none_first (x ∷ xs) e = absurd (omega (arith, e))

no_cell_in : (m : Module) (table row : ℕ) → HasKinds m → column_in table 0 ≡ None → option_and_then (λ (r : Row). slice_get r.cells 0) (row_at (rows_in m table) row) ≡ None
no_cell_in m table zero has e = refl
no_cell_in m table (suc n) has e = by_row (slice_get (rows_in m table) n) refl
  where
    by_row : (o : Option Row) → slice_get (rows_in m table) n ≡ o → option_and_then (λ (r : Row). slice_get r.cells 0) o ≡ None
    by_row None is = refl
    by_row (Some r) is = none_first r.cells (has.lengths table n r is ∙ no_columns (columns_in table) e)

pub no_cell_of : (m : Module) (t : Token) → HasKinds m → column_in t.table 0 ≡ None → cell_of m t 0 ≡ None
unfolding cell_of row_of
no_cell_of m t has e = no_cell_in m t.table t.row has e

row_none : (o : Option Row) → is_some (option_map (λ (r : Row). r.cells) o) ≡ false → o ≡ None
row_none None h = refl
row_none (Some r) h = absurd cc

pub no_row_cell : (m : Module) (t : Token) → has_row m t ≡ false → cell_of m t 0 ≡ None
unfolding cell_of
no_row_cell m t h = ap (λ (o : Option Row). option_and_then (λ (r : Row). slice_get r.cells 0) o) (row_none (row_of m t) (sym (has_cells m t) ∙ h))

body_none : (c : Cell) → (cell_kind c ≡ bodies → ⊥) → body_of_cell (Some c) ≡ None
body_none (number n) h = refl
body_none (text t) h = refl
body_none (blob t) h = refl
body_none (guid t) h = refl
body_none (refer t) h = refl
body_none (body b) h = absurd (h refl)
body_none (field t) h = refl

-- a row of another table has no body
pub other_body : (m : Module) (t : Token) → HasKinds m → has_row m t ≡ true → (t.table == method_def) ≡ false → method_body m t ≡ None
other_body m t has row apart = by_column (column_in t.table 0) (cell_of m t 0) refl refl
  where
    by_column : (k : Option Column) (c : Option Cell) → column_in t.table 0 ≡ k → cell_of m t 0 ≡ c → method_body m t ≡ None
    by_column None c column is = ap body_of_cell (no_cell_of m t has column)
    by_column (Some k) None column is = ap body_of_cell is
    by_column (Some k) (Some c) column is =
        ap body_of_cell is
        ∙ body_none c (λ e. not_bodies t.table apart (kind_of_cell m t 0 k c has row column is ∙ ap (λ (x : Kind). Some x) e))

-- a method that a version stands for
run_same : (users : ℕ → Option (List ℕ)) (lines : MethodLines) (v : Version) (b : Bool) → lines_read v.points ≡ lines
    → option_map (λ (x : Body). record { body = x; points = lines.points }) (if b then Some (body_of users v.code) else None)
    ≡ option_map (code_meant users) (if is_some (if b then Some (body_of users v.code) else None) then Some v else None)
run_same users lines v false e = refl
run_same users lines v true e = ap (λ (l : MethodLines). Some (record { body = body_of users v.code; points = l.points })) (sym e)

shape_same : (users : ℕ → Option (List ℕ)) (m : Module) (lines : MethodLines) (o : Option Version) (b : Bool) → IfSome o (λ (v : Version). lines_read v.points ≡ lines)
    → option_map (λ (x : Body). record { body = x; points = lines.points }) (if b then if_runs m (option_map (λ (v : Version). body_of users v.code) o) else None)
    ≡ option_map (code_meant users) (if is_some (if b then if_runs m (option_map (λ (v : Version). body_of users v.code) o) else None) then o else None)
shape_same users m lines o false e = refl
shape_same users m lines None true e = refl
shape_same users m lines (Some v) true e = run_same users lines v (runs_body m (body_of users v.code)) e

version_same : (users : ℕ → Option (List ℕ)) (m : Module) (debug : PlainPdb) (methods : List (Option Version)) (method : Token)
    → AreVersionsOf users m debug methods → method.table ≡ method_def → IsTrue (has_row m method)
    → code_now m debug method ≡ option_map (code_meant users) (if is_some (run_body m method) then newest_of methods method else None)
unfolding run_body
version_same users m debug methods method are at row =
    let is = are.each method at row in
    let cell : method_body m method ≡ option_map (λ (v : Version). body_of users v.code) (newest_of methods method) = ap body_of_cell is.means in
    ap (λ (o : Option Body). option_map (λ (x : Body). record { body = x; points = (lines_known (debug method)).points })
    (if is_some (call_shape m method) then if_runs m o else None)) cell
    ∙ shape_same users m (lines_known (debug method)) (newest_of methods method) (is_some (call_shape m method)) is.lines
    ∙ ap (λ (o : Option Body). option_map (code_meant users) (if is_some (if is_some (call_shape m method) then if_runs m o else None) then newest_of methods method else None)) (sym cell)

pub is_table : (a b : ℕ) → (a == b) ≡ true → a ≡ b
is_table a b h = grind (arith, nat_tests)

-- the code of each method
pub now_meant : (users : ℕ → Option (List ℕ)) (m : Module) (debug : PlainPdb) (methods : List (Option Version)) (method : Token)
    → IsSound m → AreVersionsOf users m debug methods
    → code_now m debug method ≡ option_map (code_meant users) (if is_some (run_body m method) then newest_of methods method else None)
now_meant users m debug methods method sound are =
    elim (part_cases (has_row m method)) [
      | inr other ↦ none_now users m debug methods method (run_body m method) (no_body m method (ap body_of_cell (no_row_cell m method other)))
      | inl row ↦ elim (part_cases (method.table == method_def)) [
        | inl same ↦ version_same users m debug methods method are (is_table method.table method_def same) row
        | inr apart ↦ none_now users m debug methods method (run_body m method) (no_body m method (other_body m method sound.kinds row apart))
      ]
    ]
