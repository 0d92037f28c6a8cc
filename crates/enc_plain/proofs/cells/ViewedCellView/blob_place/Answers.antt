use Rattle.enc_plain.proofs.CellsOf.{stored_there}
use Rattle.enc_plain.proofs.cells.ViewedCellView.blob_place.Goals as goal

pub returns : goal.returns
returns g c = stored_there (g.V.ModuleView.meaning c.args.self.now.view.now) c.args.row c.args.column _ c.blob_place.ensures.blob c.blob_place.ensures.some
