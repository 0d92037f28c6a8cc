use Rattle.std.proofs.Common.{◌≡◌, Some, None, sym, ◌∙◌}
use Rattle.enc_delta.specs.Delta.{listed, place_in}
use Rattle.enc_delta.proofs.OwnRows.{blob_own, bytes_old}
use Rattle.enc_delta.proofs.context.ContextCellView.blob_place.Goals as goal

pub returns-in-Some : goal.returns-in-Some
returns-in-Some g c =
    let chain = c.args.self.now.chain in
    let delta = c.args.self.now.delta in
    let told : place_in (listed delta) c.args.row ≡ Some c.in-Some.place = sym c.place.ensures ∙ c.in-Some.is in
    rw (blob_own chain delta c.args.row c.in-Some.place c.args.column c.requires told, ← c.own.ensures) c.own_place.ensures

pub returns-in-None : goal.returns-in-None
returns-in-None g c =
    let chain = c.args.self.now.chain in
    let delta = c.args.self.now.delta in
    let told : place_in (listed delta) c.args.row ≡ None = sym c.place.ensures ∙ c.in-None.is in
    rw (bytes_old chain delta c.args.row c.args.column told) c.old_place.ensures
