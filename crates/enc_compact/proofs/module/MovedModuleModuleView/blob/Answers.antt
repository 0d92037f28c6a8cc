use Rattle.std.proofs.Common.{ℕ, List, Some, sym, ap, ◌∙◌}
use Rattle.enc_plain.specs.Cell.{blob}
use Rattle.enc_compact.proofs.SeenMoved.{cell_seen}
use Rattle.enc_compact.proofs.SignaturesHeld.{blob_said}
use Rattle.enc_compact.proofs.module.MovedModuleModuleView.blob.Goals as goal

pub returns : goal.returns
returns g c =
    let m = g.V.ModuleView.meaning c.args.self.now in
    let cell = rw c.lent.ensures.lent at c.blob.ensures in
    let said = blob_said m c.self.inside.signatures c.old-old.result c.args.column c.blob.result.now c.blob-2.result.now c.lent.ensures.sound
    (rw c.self.view_is at c.self.invariant.signatures) c.old-old.ensures.there cell c.blob-2.ensures in
    cell_seen m c.args.row c.args.column (blob c.blob.result.now) c.lent.ensures.sound (rw c.old-old.ensures.old at cell)
    ∙ ap (λ (b : List ℕ). Some (blob b)) (sym (rw c.old-old.ensures.table at said))
