-- Edits that break no rule of their own leave a sound module sound.
use Rattle.std.proofs.Common.{◌≡◌, true, false}
use Rattle.enc_plain.specs.Chain.{Chain}
use Rattle.enc_plain.specs.Sound.{IsSound}
use Rattle.enc_edit_list.specs.declared.edit.EditList.{EditList}
use Rattle.enc_edit_list.specs.Form.{list_fits}
use Rattle.enc_rules.specs.Edited.{edited}
use Rattle.enc_rules.specs.Rules.{there_are_too_many}
use Rattle.enc_memory_module.proofs.Unbroken.{BreakNothing}
use Rattle.enc_memory_module.proofs.CellsAfter.{cells_fit_after}
use Rattle.enc_memory_module.proofs.CountsAfter.{counts_stay}
use Rattle.enc_memory_module.proofs.KindsAfter.{kinds_after}
use Rattle.enc_memory_module.proofs.OwnersAfter.{owners_after}
use Rattle.enc_memory_module.proofs.SignaturesAfter.{signatures_stay}

-- each part of what a sound module is holds after edits
pub sound_after : (c : Chain) (l : EditList) → list_fits l ≡ true → there_are_too_many c l ≡ false → BreakNothing c l → IsSound c.plain → IsSound (edited c.plain l.edits)
sound_after c l form many none sound =
    let tables = sound.owners.tables in
    let owners = owners_after c l none sound.owners in
    let counts = counts_stay c l tables form many none sound.counts in
    let kinds = kinds_after c l tables sound.kinds form none in
    record {
      owners = owners;
      counts = counts;
      kinds = kinds;
      cells = cells_fit_after c l tables form none sound.kinds sound.cells owners.tables counts kinds;
      signatures = signatures_stay c l tables none sound.signatures;
    }
