-- The module that a plain module in memory begins with is sound.
use Rattle.std.proofs.Common.{◌≡◌, ℕ, zero, suc, ◌<◌, ◌^◌, true, false, cond, List, [], ◌∷◌, length, replicate, Some, refl, arith, subst}
use Rattle.std.specs.Prelude.{slice_get, option_map, option_and_then, nat_lt, nat_le, ◌==◌, ◌&&◌, flat_map}
use Rattle.std.specs.List.{list_any}
use Rattle.std.proofs.lemmas.Bool.Decides.{nat_tests}
use Rattle.enc_base.specs.declared.token.Token.{Token}
use Rattle.enc_schema.specs.Schema.{list_at, columns_in, column_in}
use Rattle.enc_schema.specs.declared.column.Column.{Column}
use Rattle.enc_schema.specs.declared.column.Column.TheVariants.{Num16}
use Rattle.enc_schema.specs.Children.{is_child_table, owner_table, runs_in}
use Rattle.enc_plain.specs.Cell.{Cell, number, text, guid, Kind, kind_in, cell_kind, cell_count}
use Rattle.enc_meta.specs.Heaps.{nil_guid}
use Rattle.enc_plain.specs.Module.{Module, Row, row_at, row_of, has_row, cell_of, kids_at}
use Rattle.enc_plain.specs.Signatures.{signature_column}
use Rattle.enc_plain.specs.Sound.{is_part, cell_is_sound, HasOwners, HasKinds, HasCells, HasSignatures, IsSound}
use Rattle.enc_memory_module.specs.Begun.{module_row, begun}

rows_none : (n t : ℕ) → list_at {A = Row} (replicate n []) t ≡ []
rows_none zero t = refl
rows_none (suc n) zero = refl
rows_none (suc n) (suc t) = rows_none n t

-- the tables that begin with one row in the first
abbrev one_row : Row → ℕ → List (List Row)
one_row r n = (r ∷ []) ∷ replicate n []

module_cells : (name mvid : List ℕ) (i : ℕ) (k : Kind) → kind_in 0 i ≡ Some k → option_map cell_kind (slice_get (module_row name mvid).cells i) ≡ Some k
unfolding columns_in
module_cells name mvid zero k h = h
module_cells name mvid (suc zero) k h = h
module_cells name mvid (suc (suc zero)) k h = h
module_cells name mvid (suc (suc (suc zero))) k h = h
module_cells name mvid (suc (suc (suc (suc zero)))) k h = h
module_cells name mvid (suc (suc (suc (suc (suc i))))) k h = absurd cc

none_there : (row : ℕ) → (nat_lt 0 row && nat_le row 0) ≡ true → ⊥
none_there row h = grind (arith, nat_tests)

past_one : (row : ℕ) → (nat_lt 0 (suc (suc row)) && nat_le (suc (suc row)) 1) ≡ true → ⊥
past_one row h = grind (arith, nat_tests)

cells_begun : (name mvid : List ℕ) (n t row i : ℕ) (k : Kind) → (nat_lt 0 row && nat_le row (length (list_at (one_row (module_row name mvid) n) t))) ≡ true → kind_in t i ≡ Some k → option_map cell_kind (option_and_then (λ (r : Row). slice_get r.cells i) (row_at (list_at (one_row (module_row name mvid) n) t) row)) ≡ Some k
cells_begun name mvid n zero zero i k h e = absurd cc
cells_begun name mvid n zero (suc zero) i k h e = module_cells name mvid i k e
cells_begun name mvid n zero (suc (suc row)) i k h e = absurd (past_one row h)
cells_begun name mvid n (suc t) row i k h e = absurd (none_there row (rw (rows_none n t) at h))

few_begun : (r : Row) (n t : ℕ) → length (list_at (one_row r n) t) < 2 ^ 24
few_begun r n zero = omega arith
few_begun r n (suc t) = rw (rows_none n t) (omega arith)

first_table : (r : Row) (n t row : ℕ) → (nat_lt 0 row && nat_le row (length (list_at (one_row r n) t))) ≡ true → t ≡ 0
first_table r n zero row h = refl
first_table r n (suc t) row h = absurd (none_there row (rw (rows_none n t) at h))

no_child : (t : ℕ) → t ≡ 0 → is_child_table t ≡ true → ⊥
no_child t e h = let f : false ≡ true = subst (λ k. is_child_table k ≡ true) e h in cc

none_got : (n : ℕ) (r : Row) (rows : List Row) → rows ≡ [] → slice_get rows n ≡ Some r → ⊥
none_got n r [] is e = cc
none_got n r (x ∷ rows) is e = cc

runs_begun : (name mvid : List ℕ) (k t n : ℕ) (r : Row) → slice_get (list_at (one_row (module_row name mvid) k) t) n ≡ Some r → length r.kids ≡ length (runs_in t)
runs_begun name mvid k zero zero r e = let is : module_row name mvid ≡ r = cc in rw (← is) refl
runs_begun name mvid k zero (suc n) r e = absurd cc
runs_begun name mvid k (suc t) n r e = absurd (none_got n r (list_at (replicate k []) t) (rows_none k t) e)

no_kids : (name mvid : List ℕ) (k t child : ℕ) → flat_map (λ (r : Row). kids_at r child) (list_at (one_row (module_row name mvid) k) t) ≡ []
no_kids name mvid k zero child = refl
no_kids name mvid k (suc t) child = rw (rows_none k t) refl

no_rows : (row : ℕ) → zero ≡ cond (nat_le 1 row && nat_le row 0) 1 0
no_rows row = let none : (nat_le 1 row && nat_le row 0) ≡ false = grind (arith, nat_tests) in rw none refl

no_child_rows : (r : Row) (k t row : ℕ) → is_child_table t ≡ true → zero ≡ cond (nat_le 1 row && nat_le row (length (list_at (one_row r k) t))) 1 0
no_child_rows r k zero row h = absurd (no_child 0 refl h)
no_child_rows r k (suc t) row h = rw (rows_none k t) (no_rows row)

owners_begun : (name mvid : List ℕ) → HasOwners (begun name mvid)
owners_begun name mvid = record {
  tables = record { all = refl };
  runs = record { each = λ t n r e. runs_begun name mvid 0x2C t n r e };
  owned = record { once = λ t row h. rw (no_kids name mvid 0x2C (owner_table t) t) (no_child_rows (module_row name mvid) 0x2C t row h) };
}

absent_begun : (r : Row) (k t : ℕ) → is_part t ≡ false → list_at (one_row r k) t ≡ []
absent_begun r k zero h = absurd cc
absent_begun r k (suc t) h = rows_none k t

lengths_begun : (name mvid : List ℕ) (k t n : ℕ) (r : Row) → slice_get (list_at (one_row (module_row name mvid) k) t) n ≡ Some r → length r.cells ≡ cell_count t
unfolding columns_in
lengths_begun name mvid k zero zero r e = let is : module_row name mvid ≡ r = cc in rw (← is) refl
lengths_begun name mvid k zero (suc n) r e = absurd cc
lengths_begun name mvid k (suc t) n r e = absurd (none_got n r (list_at (replicate k []) t) (rows_none k t) e)

-- what the cells of the row of Module say fits their columns
module_sound : (m : Module) (u : Token) (name mvid : List ℕ) (i : ℕ) (column : Column) (c : Cell) → list_any (λ b. b == 0) name ≡ false → length mvid ≡ 16 → column_in 0 i ≡ Some column → slice_get (module_row name mvid).cells i ≡ Some c → cell_is_sound m u column c ≡ true
unfolding columns_in nil_guid
module_sound m u name mvid zero column c none long e f =
    let is : number 0 ≡ c = cc in
    let of : Num16 ≡ column = cc in
    rw (← is, ← of) refl
module_sound m u name mvid (suc zero) column c none long e f = let is : text name ≡ c = cc in rw (← is) (rw none refl)
module_sound m u name mvid (suc (suc zero)) column c none long e f = let is : guid mvid ≡ c = cc in rw (← is) (rw long refl)
module_sound m u name mvid (suc (suc (suc zero))) column c none long e f = let is : guid nil_guid ≡ c = cc in rw (← is) refl
module_sound m u name mvid (suc (suc (suc (suc zero)))) column c none long e f = let is : guid nil_guid ≡ c = cc in rw (← is) refl
module_sound m u name mvid (suc (suc (suc (suc (suc i))))) column c none long e f = absurd cc

sound_cells : (m : Module) (u : Token) (name mvid : List ℕ) (k t row i : ℕ) (column : Column) (c : Cell) → list_any (λ b. b == 0) name ≡ false → length mvid ≡ 16 → (nat_lt 0 row && nat_le row (length (list_at (one_row (module_row name mvid) k) t))) ≡ true → column_in t i ≡ Some column → option_and_then (λ (r : Row). slice_get r.cells i) (row_at (list_at (one_row (module_row name mvid) k) t) row) ≡ Some c → cell_is_sound m u column c ≡ true
sound_cells m u name mvid k zero zero i column c none long h e f = absurd cc
sound_cells m u name mvid k zero (suc zero) i column c none long h e f = module_sound m u name mvid i column c none long e f
sound_cells m u name mvid k zero (suc (suc row)) i column c none long h e f = absurd (past_one row h)
sound_cells m u name mvid k (suc t) row i column c none long h e f = absurd (none_there row (rw (rows_none k t) at h))

cells_sound : (name mvid : List ℕ) → list_any (λ b. b == 0) name ≡ false → length mvid ≡ 16 → HasCells (begun name mvid)
unfolding has_row cell_of row_of
cells_sound name mvid none long = record { each = λ u i column c h e f. sound_cells (begun name mvid) u name mvid 0x2C u.table u.row i column c none long h e f }

no_signature : (t i : ℕ) → t ≡ 0 → signature_column t ≡ Some i → ⊥
unfolding signature_column
no_signature t i e h = let f : signature_column 0 ≡ Some i = subst (λ k. signature_column k ≡ Some i) e h in cc

signatures_sound : (name mvid : List ℕ) → HasSignatures (begun name mvid)
unfolding has_row
signatures_sound name mvid = record { each = λ u i h e. absurd (no_signature u.table i (first_table (module_row name mvid) 0x2C u.table u.row h) e) }

kinds_begun : (name mvid : List ℕ) → HasKinds (begun name mvid)
unfolding has_row cell_of row_of
kinds_begun name mvid = record {
  lengths = λ t n r e. lengths_begun name mvid 0x2C t n r e;
  kinds = λ u i k h e. cells_begun name mvid 0x2C u.table u.row i k h e;
}

-- the module that begins with its Module row is sound
pub sound_begun : (name mvid : List ℕ) → list_any (λ b. b == 0) name ≡ false → length mvid ≡ 16 → IsSound (begun name mvid)
sound_begun name mvid none long = record {
  owners = owners_begun name mvid;
  counts = record {
    absent = λ t h. absent_begun (module_row name mvid) 0x2C t h;
    single = refl;
    few = λ t. few_begun (module_row name mvid) 0x2C t;
  };
  kinds = kinds_begun name mvid;
  cells = cells_sound name mvid none long;
  signatures = signatures_sound name mvid;
}
