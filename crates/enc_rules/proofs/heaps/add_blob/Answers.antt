use Rattle.enc_base.specs.declared.refusal.StreamName.TheVariants.{Blobs}
use Rattle.enc_meta.specs.Built.{with_blob, blob_passes}
use Rattle.enc_rules.proofs.Filling.{fills_refused, refused_blob}
use Rattle.enc_rules.proofs.heaps.add_blob.Goals as goal

pub returns-in-Err : goal.returns-in-Err
returns-in-Err c = fills_refused c.in-Err.fault Blobs (blob_passes c.args.heaps.now c.args.blob.now) c.add_blob.new.self (with_blob c.args.heaps.now c.args.blob.now) (refused_blob c.args.heaps.now c.args.blob.now) c.in-Err.ensures.refused
