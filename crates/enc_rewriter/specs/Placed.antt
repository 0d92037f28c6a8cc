-- Bodies and initial bytes of fields in the code of an image that is written, and where they stand in it (ECMA-335
-- II.22.18, II.22.26, II.25.4).
use Rattle.std.specs.Prelude.{◌≡◌, ℕ, ◌%◌, ◌<◌, ◌^◌, true, List, [], ◌∷◌, ◌++◌, length, Option, Some, slice_index}
use Rattle.enc_base.specs.Token.{nth_row}
use Rattle.enc_meta.specs.Regions.{Region, range_loaded}
use Rattle.enc_pe.specs.Written.{code_rva}
use Rattle.enc_plain.specs.Bodies.{body_loaded, body_is_good}
use Rattle.enc_plain.specs.Cell.{body, field}
use Rattle.enc_plain.specs.Module.{Module, cells_of, cell_of}
use Rattle.enc_plain.specs.Rows.{number_at}
use Rattle.enc_plain.specs.Sound.{row_count}
use Rattle.enc_schema.specs.Columns as columns
use Rattle.enc_base.specs.Tables as tables

-- the code, the RVA of each method's body and that of each row of FieldRVA, 0 for none
pub record Placed : Type 0 where
  pub code : List ℕ
  pub bodies : List ℕ
  pub fields : List ℕ

-- what an image has loaded whose section begins with the code
abbrev pub loaded_with : List ℕ → List ℕ → List Region
loaded_with code behind = record { address = code_rva; bytes = code ++ behind } ∷ []

-- the body of the n-th method is the one at its RVA, and good there, whatever stands behind the code
pub record IsBodyPlaced (m : Module) (users : ℕ → Option (List ℕ)) (code : List ℕ) (n rva : ℕ) : Type 0 where
  pub meant : (behind : List ℕ) →
      cell_of m (nth_row tables.method_def n) 0 ≡ Some (body (body_loaded (loaded_with code behind) users rva))
  pub good : (behind : List ℕ)
      → body_is_good (row_count m) users (loaded_with code behind) rva
      (number_at (cells_of m) (nth_row tables.method_def n) columns.method_def_impl_flags) ≡ true

-- these bytes stand at the RVA, a multiple of eight, where it is one; without one there are none
pub record IsFieldPlaced (code there : List ℕ) (rva : ℕ) : Type 0 where
  pub none : rva ≡ 0 → there ≡ []
  pub some : 0 < rva → 0 < length there
  pub aligned : rva % 8 ≡ 0
  pub range : (behind : List ℕ) → 0 < rva → range_loaded (loaded_with code behind) rva (length there) ≡ Some there

-- each method and each row of FieldRVA has an RVA, of four bytes, by which its body or its bytes are read
pub record IsPlaced (m : Module) (users : ℕ → Option (List ℕ)) (p : Placed) : Type 0 where
  pub methods : length p.bodies ≡ row_count m tables.method_def
  pub rows : length p.fields ≡ row_count m tables.field_rva
  pub bodies : (n : ℕ) → n < row_count m tables.method_def → IsBodyPlaced m users p.code n (slice_index p.bodies n)
  pub fields : (n : ℕ) (there : List ℕ) → n < row_count m tables.field_rva
      → cell_of m (nth_row tables.field_rva n) 0 ≡ Some (field there)
      → IsFieldPlaced p.code there (slice_index p.fields n)
  pub body_words : (n : ℕ) → slice_index p.bodies n < 2 ^ 32
  pub field_words : (n : ℕ) → slice_index p.fields n < 2 ^ 32
