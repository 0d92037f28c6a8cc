-- The PDB of a delta that says an edit list goes with the delta, and makes the plain PDB of the edits made directly.
use Rattle.std.specs.Prelude.{◌≡◌, ℕ, true, List, Some, None}
use Rattle.std.specs.List.{list_all}
use Rattle.enc_base.specs.declared.token.Token.{Token}
use Rattle.enc_plain.specs.Chain.{Chain}
use Rattle.enc_plain.specs.Debug.{PlainPdb}
use Rattle.enc_rows.specs.Source.{Source}
use Rattle.enc_edit_list.specs.declared.edit.EditList.{EditList}
use Rattle.enc_rules.specs.Edited.{rows_edited}
use Rattle.enc_ppdb.specs.Misplaced.{first_misplaced}
use Rattle.enc_ppdb.specs.PdbChain.{pdb_changed}
use Rattle.enc_pdb_writer.specs.Stated.{pdb_edited, points_lie_within, points_stand, AreMethods}
use Rattle.enc_pdb_writer.specs.Written.{SaysEdits}
use Rattle.enc_checker.specs.Check.{code_sizes, new_bodies}
use Rattle.enc_list_delta.specs.Holds.{MayFollow, SaysDelta}

-- the points of a list that breaks no rule can be written, and its edits are about methods where they give bodies
abbrev pub PointsCanBeWritten : Type 0
PointsCanBeWritten = (c : Chain) (l : EditList) → MayFollow c l
    → (points_stand l ≡ true) × AreMethods (rows_edited c.plain l.edits) l.edits

-- none of its rows is out of place by the code of the delta
abbrev pub PdbsFollow : Type 0
PdbsFollow = (c : Chain) (l : EditList) (s : Source) (bytes : List ℕ) → MayFollow c l → SaysDelta c l s
    → (points : SaysEdits l (rows_edited c.plain l.edits) bytes)
    → list_all points_lie_within l.edits ≡ true → first_misplaced points.source (code_sizes s) ≡ None

-- with it a plain PDB is the one with all edits made directly
abbrev pub PdbsOfListsMean : Type 0
PdbsOfListsMean = (c : Chain) (l : EditList) (s : Source) (bytes : List ℕ) → MayFollow c l → SaysDelta c l s
    → (points : SaysEdits l (rows_edited c.plain l.edits) bytes)
    → (before : PlainPdb) (method : Token)
    → pdb_changed before (record { pdb = Some points.source; changed = new_bodies s }) method
    ≡ pdb_edited before (rows_edited c.plain l.edits) l method
