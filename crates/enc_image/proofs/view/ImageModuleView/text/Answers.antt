use Rattle.enc_image.proofs.Rows.{text_cell}
use Rattle.enc_image.proofs.view.ImageModuleView.text.Goals as goal

pub unreachable-requires : goal.unreachable-requires
unreachable-requires c = rw (← (rw c.heaps.ensures at c.in-None.ensures)) at (text_cell _ c.args.row c.args.column _ c.number.ensures.sound c.requires.row c.requires.kind c.number.ensures.raw)

pub returns : goal.returns
returns c = rw (← (rw c.heaps.ensures at c.in-Some.ensures)) at (text_cell _ c.args.row c.args.column _ c.number.ensures.sound c.requires.row c.requires.kind c.number.ensures.raw)
