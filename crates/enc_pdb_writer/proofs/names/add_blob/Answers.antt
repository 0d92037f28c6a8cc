use Rattle.std.proofs.Common.{◌+◌, ◌∙◌, length}
use Rattle.enc_base.specs.declared.refusal.StreamName.TheVariants.{Blobs}
use Rattle.enc_meta.specs.Built.{is_kept, blob_passes}
use Rattle.enc_ppdb.proofs.HeapsGrown.{blob_grown, blob_there, blob_at_place, blob_size, blob_refused, refused_where}
use Rattle.enc_pdb_writer.proofs.NamesKept.{has_room}
use Rattle.enc_pdb_writer.proofs.names.add_blob.Goals as goal

pub unreachable-requires : goal.unreachable-requires
unreachable-requires c =
    let h = c.args.heaps.now in
    let v = c.args.bytes.now in
    has_room h (is_kept h.blobs v) (length v + 4) c.requires.room
    (blob_refused h v (refused_where c.in-Err-TooLarge.field-0 c.in-Err-TooLarge.field-0-0 Blobs (blob_passes h v) c.in-Err-TooLarge.field-0-is c.in-Err-TooLarge.ensures.refused))

pub returns-in-Ok-clause-grown : goal.returns-in-Ok-clause-grown
returns-in-Ok-clause-grown c = rw c.in-Ok.ensures.added (blob_grown c.args.heaps.now c.args.bytes.now)

pub returns-in-Ok-clause-kept : goal.returns-in-Ok-clause-kept
returns-in-Ok-clause-kept c = rw c.in-Ok.ensures.added (blob_there c.args.heaps.now c.args.bytes.now)

pub returns-in-Ok-clause-offset : goal.returns-in-Ok-clause-offset
returns-in-Ok-clause-offset c = rw c.in-Ok.ensures.added (c.in-Ok.ensures.offset ∙ blob_at_place c.args.heaps.now c.args.bytes.now)

pub returns-in-Ok-clause-size : goal.returns-in-Ok-clause-size
returns-in-Ok-clause-size c = rw c.in-Ok.ensures.added (blob_size c.args.heaps.now c.args.bytes.now)
