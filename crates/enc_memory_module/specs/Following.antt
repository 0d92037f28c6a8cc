-- For the contracts of private functions: the changes that edits from a place on make, and the children that they give.
use Rattle.std.specs.Prelude.{ℕ, List, take, drop}
use Rattle.enc_plain.specs.Apply.{Change, Attached}
use Rattle.enc_plain.specs.Module.{Module}
use Rattle.enc_edit_list.specs.declared.edit.Edit.{Edit}
use Rattle.enc_rules.specs.Edited.{changes_behind, attached_behind}

abbrev pub changes_from : Module → List Edit → ℕ → List Change
changes_from m edits k = changes_behind m (take k edits) (drop k edits)

abbrev pub attached_from : Module → List Edit → ℕ → List Attached
attached_from m edits k = attached_behind m (take k edits) (drop k edits)
