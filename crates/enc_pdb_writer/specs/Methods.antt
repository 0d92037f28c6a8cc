-- The Portable PDB of a delta that says what is known of some methods, a row for each (Portable PDB v1.0).
use Rattle.std.specs.Prelude.{◌≡◌, ℕ, ◌<◌, List, Some, Ok, length, map}
use Rattle.enc_base.specs.Token.{nth_row}
use Rattle.enc_base.specs.declared.token.Token.{Token}
use Rattle.enc_rows.specs.Source.{Source}
use Rattle.enc_base.specs.Tables as tables
use Rattle.enc_plain.specs.Debug.{PlainPdb}
use Rattle.enc_ppdb.specs.Fault.{pdb_delta_of, named_tokens}
use Rattle.enc_ppdb.specs.PdbChain.{debug_at}
use Rattle.enc_ppdb.specs.Written.{IsNilOverSeveral, document_told, nth_method}

-- the bytes are a PDB of a delta that isn't refused: it names the methods of these rows, in this order, and says of
-- each what a plain PDB knows, whose methods
-- are the same without gaps; a method whose points have several documents has Document nil
pub record SaysMethods (p : PlainPdb) (rows : List ℕ) (bytes : List ℕ) : Type 0 where
  pub source : Source
  pub read : pdb_delta_of bytes ≡ Ok source
  pub named : map (λ (t : Token). t.row) (named_tokens source) ≡ rows
  pub says : (k : ℕ) → k < length rows
      → debug_at (Some (source, nth_row tables.method_debug_information k)) ≡ nth_method p k
  pub several : (k : ℕ) → k < length rows → IsNilOverSeveral (nth_method p k).points (document_told source k)
