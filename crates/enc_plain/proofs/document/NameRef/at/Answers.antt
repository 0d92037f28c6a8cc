use Rattle.std.proofs.Common.{sym, ◌∙◌}
use Rattle.enc_plain.proofs.NamePlaces.{blob_fewer}
use Rattle.enc_plain.proofs.document.NameRef.at.Goals as goal

pub invariant_of-result : goal.invariant_of-result
invariant_of-result c = (sym c.is_name.ensures ∙ c.if-not-is_name.false, blob_fewer c.args.heaps.blobs c.args.offset c.in_ok-blob.blob.now (sym c.in_ok-blob.ensures))
