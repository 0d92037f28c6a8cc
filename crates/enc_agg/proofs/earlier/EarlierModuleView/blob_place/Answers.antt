use Rattle.std.proofs.Common.{◌≡◌, Some, reverse, sym, ap, ◌∙◌}
use Rattle.std.specs.Prelude.{option_map}
use Rattle.enc_agg.specs.Seen.{found_in, found_seen}
use Rattle.enc_agg.proofs.Asked.{base_row, base_cell, the_found, blob_found}
use Rattle.enc_agg.proofs.BlobPlaces.{base_blob, base_some, base_cell_blob, found_blob}
use Rattle.enc_agg.proofs.earlier.EarlierModuleView.blob_place.Goals as goal

pub blob_place-requires-clause-row : goal.blob_place-requires-clause-row
blob_place-requires-clause-row c = base_row c.self.inside.image.now _ c.args.row c.self.invariant.deltas _ (c.find.ensures) c.in_default.is (rw (← c.self.view_is) at c.requires.row)

pub returns-in_default-clause-blob : goal.returns-in_default-clause-blob
returns-in_default-clause-blob c =
    let found = c.find.ensures in
    rw (← c.self.view_is) (base_blob c.self.inside.image.now _ c.blob_place.result _ c.blob_place.ensures.some (base_cell_blob _ _ _ (λ cell h. base_cell c.self.inside.image.now _ c.args.row c.args.column cell c.self.invariant.deltas _ found c.in_default.is h) c.blob_place.ensures.some c.blob_place.ensures.blob))

pub returns-in_default-clause-some : goal.returns-in_default-clause-some
returns-in_default-clause-some c = rw (← c.self.view_is) (base_some c.self.inside.image.now _ c.blob_place.result c.blob_place.ensures.some)

pub returns-clause-blob : goal.returns-clause-blob
returns-clause-blob c =
    let told = c.find.ensures in
    let found = the_found c.self.inside.image.now _ c.args.row c.self.invariant.deltas _ c.in-Some.found told c.in-Some.is in
    let is : found_in (reverse c.self.inside.added.now) c.args.row ≡ Some (reverse c.in-Some.found.upto.now, c.in-Some.found.row) = sym told ∙ ap (option_map found_seen) c.in-Some.is in
    rw (← c.self.view_is, c.from.ensures) ((found_blob c.self.inside.image.now _ _ c.args.row _ _ _ is (blob_found c.self.inside.image.now _ _ c.args.row _ c.args.column _ found c.requires.kind (rw c.row_found.ensures at c.number.ensures))).0)

pub returns-clause-some : goal.returns-clause-some
returns-clause-some c =
    let told = c.find.ensures in
    let found = the_found c.self.inside.image.now _ c.args.row c.self.invariant.deltas _ c.in-Some.found told c.in-Some.is in
    let is : found_in (reverse c.self.inside.added.now) c.args.row ≡ Some (reverse c.in-Some.found.upto.now, c.in-Some.found.row) = sym told ∙ ap (option_map found_seen) c.in-Some.is in
    rw (← c.self.view_is, c.from.ensures) ((found_blob c.self.inside.image.now _ _ c.args.row _ _ _ is (blob_found c.self.inside.image.now _ _ c.args.row _ c.args.column _ found c.requires.kind (rw c.row_found.ensures at c.number.ensures))).1)
