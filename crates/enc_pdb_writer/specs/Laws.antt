-- What the PDB of a delta that says an edit list makes of a plain PDB, and that it goes with the delta's methods.
use Rattle.std.specs.Prelude.{◌≡◌, ℕ, true, List, Option, Some, None, is_some}
use Rattle.std.specs.List.{list_any, list_all}
use Rattle.enc_base.specs.Token.{is_token}
use Rattle.enc_base.specs.declared.token.Token.{Token}
use Rattle.enc_plain.specs.Debug.{PlainPdb}
use Rattle.enc_edit_list.specs.declared.body.BodyValue.{BodyValue}
use Rattle.enc_edit_list.specs.declared.edit.Edit.{Edit}
use Rattle.enc_edit_list.specs.declared.edit.EditList.{EditList}
use Rattle.enc_edit_list.specs.Sizes.{length_of_code}
use Rattle.enc_rules.specs.Listed.{body_given}
use Rattle.enc_ppdb.specs.Misplaced.{size_for, first_misplaced}
use Rattle.enc_ppdb.specs.PdbChain.{pdb_changed}
use Rattle.enc_pdb_writer.specs.Stated.{edit_giving, pdb_edited, points_lie_within}
use Rattle.enc_pdb_writer.specs.Written.{SaysEdits, method_named}

-- where exactly the methods with a new body are told as such, it makes the plain PDB of the edits made directly
abbrev pub PdbsAreEdited : Type 0
PdbsAreEdited = (l : EditList) (methods changed : List Token) (bytes : List ℕ) (says : SaysEdits l methods bytes)
    (before : PlainPdb) (method : Token)
    → list_any (is_token method) changed ≡ is_some (edit_giving methods l.edits method)
    → pdb_changed before (record { pdb = Some says.source; changed = changed }) method
    ≡ pdb_edited before methods l method

abbrev pub size_given : Option BodyValue → ℕ
size_given None = 0
size_given (Some b) = length_of_code b.code

-- the sizes are those of the code that edits give
abbrev pub AreSizes : List (Token × ℕ) → List Token → List Edit → Type 0
AreSizes sizes methods edits = (t : Token) (e : Edit)
    → edit_giving methods edits (method_named t) ≡ Some e → size_for sizes t ≡ Some (size_given (body_given e))

-- where each point stands in the code of its body, none of its rows is out of place
abbrev pub NoneIsMisplaced : Type 0
NoneIsMisplaced = (l : EditList) (methods : List Token) (bytes : List ℕ) (says : SaysEdits l methods bytes)
    (sizes : List (Token × ℕ))
    → AreSizes sizes methods l.edits → list_all points_lie_within l.edits ≡ true
    → first_misplaced says.source sizes ≡ None
