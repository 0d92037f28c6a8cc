-- For the contracts of private functions: the parts of a delta's PDB (Portable PDB v1.0).
use Rattle.std.specs.Prelude.{◌≡◌, ℕ, ◌==◌, false, List, [], ◌∷◌, ◌++◌, length, map, Some, if◌then◌else◌, slice_get}
use Rattle.enc_base.specs.Token.{number_of}
use Rattle.enc_meta.specs.Built.{Built, heaps_built}
use Rattle.enc_plain.specs.Debug.{Document, PlainPdb}
use Rattle.enc_rows.specs.Written.{rows_at, count_at}
use Rattle.enc_base.specs.Tables as tables
use Rattle.enc_ppdb.specs.Misplaced.{debug_token}
use Rattle.enc_ppdb.specs.Written.{nth_method, documents_of, pdb_starts, DocumentSays, MethodSays}

-- the row of EncMap that names a row of MethodDebugInformation by the row of its method
unfoldable pub map_cells : ℕ → List ℕ
map_cells row = number_of (debug_token row) ∷ []

-- the rows of all tables are as before, with more of EncMap
abbrev pub MoreNamed : List (List (List ℕ)) → List (List (List ℕ)) → List (List ℕ) → Type 0
MoreNamed old new more = (k : ℕ)
    → rows_at new k ≡ (if k == tables.enc_map then rows_at old k ++ more else rows_at old k)

-- the rows say the documents and the methods of a plain PDB, EncMap names these by their rows, and there are no others
pub record HoldPdbDelta (p : PlainPdb) (numbers : List ℕ) (h : Built) (rows : List (List (List ℕ))) : Type 0 where
  pub starts : h.starts ≡ pdb_starts
  pub documents : count_at rows tables.document ≡ length (documents_of p (length numbers))
  pub document : (n : ℕ) (d : Document) (cells : List ℕ) → slice_get (documents_of p (length numbers)) n ≡ Some d
      → slice_get (rows_at rows tables.document) n ≡ Some cells → DocumentSays (heaps_built h) d cells
  pub methods : count_at rows tables.method_debug_information ≡ length numbers
  pub method : (n : ℕ) (cells : List ℕ) → slice_get (rows_at rows tables.method_debug_information) n ≡ Some cells
      → MethodSays (heaps_built h) (documents_of p (length numbers)) (nth_method p n) cells
  pub named : rows_at rows tables.enc_map ≡ map map_cells numbers
  pub others : (table : ℕ) → (table == tables.document) ≡ false → (table == tables.method_debug_information) ≡ false
      → (table == tables.enc_map) ≡ false → count_at rows table ≡ 0
