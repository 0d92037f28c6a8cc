-- For the contracts of private functions: the edits with points by the rows of their methods, and what the source of
-- their points stands for.
use Rattle.std.specs.Prelude.{◌≡◌, ℕ, zero, suc, ◌+◌, ◌<◌, ◌≤◌, ◌^◌, ◌==◌, Bool, true, ◌&&◌, List, [], ◌∷◌, ◌++◌, length, map, Option, Some, None, is_ok, unwrap_or, option_and_then, nat_lt, if◌then◌else◌, slice_get, refl}
use Rattle.std.specs.List.{list_all}
use Rattle.std.specs.List.Sorted.{IsPermutation, IsStrictlyIncreasing}
use Rattle.sha2.specs.Sha256.{sha256}
use Rattle.enc_base.specs.declared.token.Token.{Token}
use Rattle.enc_base.specs.Tables as tables
use Rattle.enc_seqpoints.specs.Grammar.{MethodPoints, method_points}
use Rattle.enc_seqpoints.specs.Spelling.{blob_of}
use Rattle.enc_plain.specs.Debug.{Document, PlainPdb, debug_of}
use Rattle.enc_plain.specs.SoundDebug.{IsSoundPdb}
use Rattle.enc_ppdb.specs.Written.{pdb_weight}
use Rattle.enc_edit_list.specs.declared.edit.DocumentValue.{DocumentValue}
use Rattle.enc_edit_list.specs.declared.edit.Edit.{Edit}
use Rattle.enc_edit_list.specs.declared.edit.EditList.{EditList}
use Rattle.enc_rules.specs.Listed.{body_given, points_given}
use Rattle.enc_rules.specs.Rules.{has_points}
use Rattle.enc_pdb_writer.specs.Names.{HaveRoom}
use Rattle.enc_pdb_writer.specs.Stated.{document_stated, locals_row}
use Rattle.enc_pdb_writer.specs.declared.edits.MethodEdit.{MethodEdit}

-- an edit with points, with the row of its method and its place
unfoldable pub placed_edit : ℕ → Token → Edit → List MethodEdit
placed_edit n t e = if has_points e then record { row = t.row; place = n } ∷ [] else []

-- the edits with points, in the order of the list; the first of the edits has this place
unfoldable pub placed_from : ℕ → List Token → List Edit → List MethodEdit
placed_from n (t ∷ methods) (e ∷ edits) = placed_edit n t e ++ placed_from (n + 1) methods edits
placed_from n _ _ = []

abbrev pub row_placed : MethodEdit → ℕ
row_placed m = m.row

-- a row of three bytes
abbrev pub has_short_row : ℕ → Bool
has_short_row row = nat_lt row (2 ^ 24)

-- the edits with points by the rising rows of their methods
pub record AreByRows (methods : List Token) (edits : List Edit) (placed : List MethodEdit) : Type 0 where
  pub rises : IsStrictlyIncreasing (map row_placed placed)
  pub same : IsPermutation (placed_from 0 methods edits) placed

-- what an edit says of its method, where there is one
abbrev pub said_by : Option Edit → MethodPoints
said_by None = method_points 0 []
said_by (Some e) = method_points (locals_row (body_given e)) (points_given e)

-- what the edits at places say
unfoldable pub said_at : List Edit → List MethodEdit → List MethodPoints
said_at edits placed = map (λ (m : MethodEdit). said_by (slice_get edits m.place)) placed

-- it can be spelled
abbrev pub can_be_said : Option Edit → Bool
can_be_said None = true
can_be_said (Some e) = nat_lt (locals_row (body_given e)) (2 ^ 29) && is_ok (blob_of 0 0 (points_given e))

-- the edit of the n-th row, from 1
abbrev pub edit_of_row : List Edit → List MethodEdit → ℕ → Option Edit
edit_of_row edits placed zero = None
edit_of_row edits placed (suc n) = option_and_then (λ (m : MethodEdit). slice_get edits m.place) (slice_get placed n)

-- all can be spelled
unfoldable pub can_be_spelled_at : List Edit → List MethodEdit → Bool
can_be_spelled_at edits placed = list_all (λ (m : MethodEdit). can_be_said (slice_get edits m.place)) placed

-- the documents of edits with points, none where no edit has one
abbrev pub documents_used : List MethodEdit → List DocumentValue → List DocumentValue
documents_used [] documents = []
documents_used (m ∷ placed) documents = documents

-- the hash of a document's source
abbrev pub hash_of : DocumentValue → List ℕ
hash_of d = sha256 d.source

-- the documents that points can have, and what is said of the first methods, in the order of their rows
pub record ListedPdb : Type 0 where
  pub documents : List Document
  pub methods : List MethodPoints

-- what is said of a row
abbrev pub row_said : List MethodPoints → ℕ → MethodPoints
row_said methods zero = method_points 0 []
row_said methods (suc n) = unwrap_or (slice_get methods n) (method_points 0 [])

unfoldable pub points_said_of : List MethodPoints → Token → MethodPoints
points_said_of methods method =
    if method.table == tables.method_def then row_said methods method.row else method_points 0 []

-- the document with a number, from 1
abbrev pub numbered_document : List Document → ℕ → Option Document
numbered_document documents zero = None
numbered_document documents (suc n) = slice_get documents n

-- the plain PDB that is meant
unfoldable pub pdb_listed : ListedPdb → PlainPdb
pdb_listed l method = debug_of (numbered_document l.documents) (points_said_of l.methods method)

-- by the points and the documents that are lent
pub listed_known : (l : ListedPdb) (method : Token)
    → debug_of (numbered_document l.documents) (points_said_of l.methods method) ≡ pdb_listed l method
unfolding pdb_listed
listed_known l method = refl

-- what is meant of an edit list: what its edits with points say, in the order of the rows of their methods
abbrev pub list_pdb : EditList → List MethodEdit → PlainPdb
list_pdb l placed = pdb_listed
    (record { documents = map document_stated (documents_used placed l.documents); methods = said_at l.edits placed })

-- a PDB can be written of what is meant of an edit list
pub record IsPdbListed (l : EditList) (placed : List MethodEdit) : Type 0 where
  pub room : HaveRoom (documents_used placed l.documents)
  pub said : can_be_spelled_at l.edits placed ≡ true
  pub sound : IsSoundPdb (list_pdb l placed)
  pub light : pdb_weight (list_pdb l placed) (length placed) ≤ 2 ^ 29
  pub few : length placed < 2 ^ 24
  pub rows : list_all has_short_row (map row_placed placed) ≡ true
