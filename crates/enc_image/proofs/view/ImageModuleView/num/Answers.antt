use Rattle.enc_image.proofs.Rows.{number_cell}
use Rattle.enc_image.proofs.view.ImageModuleView.num.Goals as goal

pub returns : goal.returns
returns c = number_cell _ c.args.row c.args.column _ c.requires.row c.requires.kind c.number.ensures.raw
