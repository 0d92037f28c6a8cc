use Rattle.enc_delta.specs.Context.{joined_rows, joined_blobs}
use Rattle.enc_delta.proofs.StoredBlobs.{kept_at}
use Rattle.enc_delta.proofs.updates.is_blob_kept.Goals as goal

pub returns-then-is_one_place-clause-kept : goal.returns-then-is_one_place-clause-kept
returns-then-is_one_place-clause-kept g c = kept_at (joined_rows c.args.context.now) (joined_blobs c.args.context.now) c.args.token.table _ _ _ _ _ c.old_place.ensures c.blob_place.ensures (c.is_one_place.ensures c.if-is_one_place.true)
