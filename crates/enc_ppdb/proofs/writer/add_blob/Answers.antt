use Rattle.std.proofs.Common.{◌∙◌}
use Rattle.enc_base.specs.declared.refusal.StreamName.TheVariants.{Blobs}
use Rattle.enc_meta.specs.Built.{blob_passes}
use Rattle.enc_ppdb.proofs.HeapsGrown.{blob_grown, blob_there, blob_at_place, blob_size, blob_same, blob_refused, refused_where}
use Rattle.enc_ppdb.proofs.writer.add_blob.Goals as goal

pub returns-in-Ok-clause-grown : goal.returns-in-Ok-clause-grown
returns-in-Ok-clause-grown c = rw c.in-Ok.ensures.added (blob_grown c.args.heaps.now c.args.bytes.now)

pub returns-in-Ok-clause-kept : goal.returns-in-Ok-clause-kept
returns-in-Ok-clause-kept c = rw c.in-Ok.ensures.added (blob_there c.args.heaps.now c.args.bytes.now)

pub returns-in-Ok-clause-offset : goal.returns-in-Ok-clause-offset
returns-in-Ok-clause-offset c = rw c.in-Ok.ensures.added (c.in-Ok.ensures.offset ∙ blob_at_place c.args.heaps.now c.args.bytes.now)

pub returns-in-Ok-clause-size : goal.returns-in-Ok-clause-size
returns-in-Ok-clause-size c = rw c.in-Ok.ensures.added (blob_size c.args.heaps.now c.args.bytes.now)

pub returns-in-Ok-clause-same : goal.returns-in-Ok-clause-same
returns-in-Ok-clause-same c = λ kept. c.in-Ok.ensures.added ∙ blob_same c.args.heaps.now c.args.bytes.now kept

pub returns-in-Err-TooLarge-clause-refused : goal.returns-in-Err-TooLarge-clause-refused
returns-in-Err-TooLarge-clause-refused c = blob_refused c.args.heaps.now c.args.bytes.now (refused_where c.in-Err-TooLarge.field-0 c.in-Err-TooLarge.field-0-0 Blobs (blob_passes c.args.heaps.now c.args.bytes.now) c.in-Err-TooLarge.field-0-is c.in-Err-TooLarge.ensures.refused)
