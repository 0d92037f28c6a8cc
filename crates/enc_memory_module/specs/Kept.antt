-- A list that breaks no rule leaves a sound module sound.
use Rattle.std.specs.Prelude.{◌≡◌, true, None}
use Rattle.enc_plain.specs.Chain.{Chain}
use Rattle.enc_plain.specs.Sound.{IsSound}
use Rattle.enc_edit_list.specs.declared.edit.EditList.{EditList}
use Rattle.enc_edit_list.specs.Form.{list_fits}
use Rattle.enc_rules.specs.Edited.{edited}
use Rattle.enc_rules.specs.First.{first_edit}

-- after a chain with a sound module, a list of the form that breaks no rule makes one
abbrev pub ListsKeepSound : Type 0
ListsKeepSound = (c : Chain) (l : EditList) → list_fits l ≡ true → first_edit c l ≡ None → IsSound c.plain
    → IsSound (edited c.plain l.edits)
