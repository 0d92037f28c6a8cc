use Rattle.enc_plain.specs.Module.{cells_of}
use Rattle.enc_plain.specs.Rows.{bytes_at, AreStoredAt}
use Rattle.enc_delta.proofs.StoredBlobs.{stored_still}
use Rattle.enc_delta.proofs.context.Context.old_place.Goals as goal

pub returns : goal.returns
returns g c =
    let view = c.self.inside.old.view.now in
    let there : AreStoredAt (g.C.ModuleView.stored view) c.blob_place.result (bytes_at (cells_of (g.C.ModuleView.meaning view)) c.args.row c.args.column) = c.blob_place.ensures in
    rw (← c.self.view_is) (stored_still (g.C.ModuleView.stored view) (g.C.ChainView.chain view).heaps c.self.inside.delta.now.heaps c.blob_place.result _ (g.met.C.ChainView.joins view) (rw (g.met.C.ChainView.means view) at there))
