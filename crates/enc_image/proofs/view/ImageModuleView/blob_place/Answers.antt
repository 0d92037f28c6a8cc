use Rattle.enc_image.proofs.Rows.{blob_cell}
use Rattle.enc_image.proofs.StoredBlobs.{as_stored, is_stored}
use Rattle.enc_image.proofs.view.ImageModuleView.blob_place.Goals as goal

pub returns-clause-blob : goal.returns-clause-blob
returns-clause-blob c = rw c.from.ensures (as_stored _ _ (blob_cell _ c.args.row c.args.column _ c.number.ensures.sound c.requires.row c.requires.kind c.number.ensures.raw))

pub returns-clause-some : goal.returns-clause-some
returns-clause-some c = rw c.from.ensures (is_stored _ _ (blob_cell _ c.args.row c.args.column _ c.number.ensures.sound c.requires.row c.requires.kind c.number.ensures.raw))
