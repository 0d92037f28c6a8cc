use Rattle.enc_image.proofs.Rows.{blob_cell}
use Rattle.enc_image.proofs.view.ImageModuleView.blob.Goals as goal

pub unreachable-requires : goal.unreachable-requires
unreachable-requires c = rw (← (rw c.heaps.ensures at c.in-None.ensures)) at (blob_cell _ c.args.row c.args.column _ c.number.ensures.sound c.requires.row c.requires.kind c.number.ensures.raw)

pub returns : goal.returns
returns c = rw (← (rw c.heaps.ensures at c.in-Some.ensures)) at (blob_cell _ c.args.row c.args.column _ c.number.ensures.sound c.requires.row c.requires.kind c.number.ensures.raw)
