use Rattle.std.proofs.Common.{sym, ◌∙◌}
use Rattle.enc_plain.proofs.SignatureColumns.{signature_kind}
use Rattle.enc_schema.specs.Schema.{list_at}
use Rattle.enc_row_order.specs.Orders.{moved_by}
use Rattle.enc_compact.proofs.SignaturesHeld.{own_signature, place_says, own_says, blob_known}
use Rattle.enc_compact.proofs.signatures.slot_of.Goals as goal

pub blob_place-place-requires-clause-kind : goal.blob_place-place-requires-clause-kind
blob_place-place-requires-clause-kind g c = signature_kind c.args.row.table c.args.column c.requires.column

pub returns-in-Some-clause-says : goal.returns-in-Some-clause-says
returns-in-Some-clause-says g c =
    place_says (g.V.ModuleView.meaning c.args.view.now) (moved_by (list_at c.args.moving.now.order.now)) (g.V.ModuleView.stored c.args.view.now) c.args.row
    c.args.column c.args.blobs.now.held.items c.args.blobs.now.known c.blob_place-place.result c.in-Some.slot c.requires.known
    (sym c.in-Some.is ∙ c.known_at.ensures) c.blob_place-place.ensures.blob c.blob_place-place.ensures.some

pub blob-blob-requires-clause-kind : goal.blob-blob-requires-clause-kind
blob-blob-requires-clause-kind g c = signature_kind c.args.row.table c.args.column c.requires.column

pub hold-requires-clause-signature : goal.hold-requires-clause-signature
hold-requires-clause-signature g c =
    own_signature (g.V.ModuleView.meaning c.args.view.now) c.args.row c.args.column c.blob-blob.result.now _ c.requires.sound c.requires.row c.requires.column
    c.requires.counts c.blob-blob.ensures

pub returns-in-Ok-insert-clause-says : goal.returns-in-Ok-insert-clause-says
returns-in-Ok-insert-clause-says g c =
    own_says (g.V.ModuleView.meaning c.args.view.now) (moved_by (list_at c.args.moving.now.order.now)) c.args.row c.args.column c.hold.new.held.items
    c.blob-blob.result.now c.in-Ok.slot c.blob-blob.ensures c.in-Ok.ensures.says

pub returns-in-Ok-insert-clause-known : goal.returns-in-Ok-insert-clause-known
returns-in-Ok-insert-clause-known g c =
    blob_known (g.V.ModuleView.meaning c.args.view.now) (moved_by (list_at c.args.moving.now.order.now)) (g.V.ModuleView.stored c.args.view.now) c.args.row
    c.args.column c.args.blobs.now.held.items c.hold.new.held.items c.in-Ok.ensures.grows.0 c.args.blobs.now.known c.insert.new.self c.blob-blob.result.now
    c.blob_place-place.result c.in-Ok.slot c.requires.known c.in-Ok.ensures.grows.1 c.blob_place-place.ensures.blob c.blob-blob.ensures c.in-Ok.ensures.says
    c.in-Ok-insert.ensures.updates
