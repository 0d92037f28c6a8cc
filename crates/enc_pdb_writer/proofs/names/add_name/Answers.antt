use Rattle.std.proofs.Common.{◌≤◌, ◌∙◌, length, arith}
use Rattle.enc_ppdb.proofs.RowsGiven.{name_few, blob_low}
use Rattle.enc_pdb_writer.proofs.NamesKept.{said_now}
use Rattle.enc_pdb_writer.proofs.names.add_name.Goals as goal

pub name_blob-requires : goal.name_blob-requires
name_blob-requires c = omega (arith, c.in_ok-offset.ensures.offset, blob_low c.add_blob.new.heaps c.args.name.now c.in_ok-offset.ensures.kept, c.in_ok-offset.ensures.size, c.requires.room)

pub add_blob-requires-2 : goal.add_blob-requires-2
add_blob-requires-2 c =
    let few : length c.deref.result.now ≤ 5 = rw (c.deref.ensures.value, c.in_ok-blob.ensures) (name_few c.in_ok-offset.offset) in
    record { room = omega (arith, few, c.in_ok-offset.ensures.size, c.requires.room) }

pub returns-clause-said : goal.returns-clause-said
returns-clause-said c =
    said_now c.add_blob.new.heaps c.add_blob-2.new.heaps c.args.name.now c.deref.result.now c.in_ok-offset.offset c.in_ok-at.at c.in_ok-offset.ensures.kept c.in_ok-offset.ensures.offset
    (c.deref.ensures.value ∙ c.in_ok-blob.ensures) c.in_ok-at.ensures.grown c.in_ok-at.ensures.kept c.in_ok-at.ensures.offset

pub returns-clause-size : goal.returns-clause-size
returns-clause-size c =
    let few : length c.deref.result.now ≤ 5 = rw (c.deref.ensures.value, c.in_ok-blob.ensures) (name_few c.in_ok-offset.offset) in
    omega (arith, few, c.in_ok-offset.ensures.size, c.in_ok-at.ensures.size)
