-- For the contracts of private functions: the files of a delta, before they are read.
use Rattle.std.specs.Prelude.{◌≡◌, true}
use Rattle.std.specs.List.{list_all}
use Rattle.enc_plain.specs.Chain.{Chain}
use Rattle.enc_edit_list.specs.declared.edit.EditList.{EditList}
use Rattle.enc_rules.specs.Edited.{rows_edited}
use Rattle.enc_pdb_writer.specs.Stated.{points_lie_within}
use Rattle.enc_pdb_writer.specs.Written.{SaysEdits}
use Rattle.enc_list_delta.specs.Holds.{MayFollow}
use Rattle.enc_emit.specs.declared.delta_bytes.DeltaBytes.{DeltaBytes}
use Rattle.enc_writer.specs.Stands.{IsWrittenFor}
use Rattle.enc_writer.specs.Writing.{IsMetadata}

-- the metadata holds what the list states by the code, and the PDB says its points
pub record HoldFiles (c : Chain) (l : EditList) (d : DeltaBytes) : Type 0 where
  pub meta : IsMetadata c l d.il d.meta
  pub points : SaysEdits l (rows_edited c.plain l.edits) d.pdb

-- such files are written for the list, where each point stands in the code of its body
abbrev pub FilesStand : Type 0
FilesStand = (c : Chain) (l : EditList) (d : DeltaBytes) → MayFollow c l → list_all points_lie_within l.edits ≡ true
    → HoldFiles c l d → IsWrittenFor c l d
