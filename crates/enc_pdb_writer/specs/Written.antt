-- The Portable PDB of a delta that says what an edit list states (Portable PDB v1.0).
use Rattle.std.specs.Prelude.{◌≡◌, ℕ, Bool, false, List, take, Option, Some, None, Ok, slice_get}
use Rattle.std.specs.List.{list_any}
use Rattle.enc_base.specs.Token.{nth_row}
use Rattle.enc_base.specs.declared.token.Token.{Token}
use Rattle.enc_rows.specs.Source.{Source}
use Rattle.enc_base.specs.Tables as tables
use Rattle.enc_edit_list.specs.declared.edit.Edit.{Edit}
use Rattle.enc_edit_list.specs.declared.edit.EditList.{EditList}
use Rattle.enc_rules.specs.Rules.{has_points}
use Rattle.enc_ppdb.specs.Fault.{pdb_delta_of, named_tokens}
use Rattle.enc_ppdb.specs.Misplaced.{is_behind}
use Rattle.enc_ppdb.specs.PdbChain.{debug_at}
use Rattle.enc_ppdb.specs.Points.{names_method}
use Rattle.enc_ppdb.specs.Written.{IsNilOverSeveral, document_told}
use Rattle.enc_pdb_writer.specs.Stated.{debug_stated, edit_giving}

abbrev pub gives_points : Option Edit → Bool
gives_points None = false
gives_points (Some e) = has_points e

-- the method that a token of MethodDebugInformation names
abbrev pub method_named : Token → Token
method_named t = record { table = tables.method_def; row = t.row }

-- the bytes are a PDB of a delta that isn't refused: it names exactly the methods whose edits have points, by rising
-- rows, and says of each what its edit
-- does; a method whose points have several documents has Document nil
pub record SaysEdits (l : EditList) (methods : List Token) (bytes : List ℕ) : Type 0 where
  pub source : Source
  pub read : pdb_delta_of bytes ≡ Ok source
  pub rises : (k : ℕ) (t : Token) → slice_get (named_tokens source) k ≡ Some t
      → is_behind (take k (named_tokens source)) t ≡ false
  pub named : (method : Token) →
      list_any (names_method method) (named_tokens source) ≡ gives_points (edit_giving methods l.edits method)
  pub says : (k : ℕ) (t : Token) (e : Edit) → slice_get (named_tokens source) k ≡ Some t
      → edit_giving methods l.edits (method_named t) ≡ Some e
      → debug_at (Some (source, nth_row tables.method_debug_information k)) ≡ debug_stated l.documents e
  pub several : (k : ℕ) (t : Token) (e : Edit) → slice_get (named_tokens source) k ≡ Some t
      → edit_giving methods l.edits (method_named t) ≡ Some e
      → IsNilOverSeveral (debug_stated l.documents e).points (document_told source k)
