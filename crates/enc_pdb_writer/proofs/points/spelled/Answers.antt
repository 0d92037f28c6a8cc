use Rattle.enc_seqpoints.specs.Spelling.{blob_of}
use Rattle.enc_pdb_writer.proofs.PointsSaid.{not_refused, spelled_by}
use Rattle.enc_pdb_writer.proofs.points.spelled.Goals as goal

pub unreachable-requires : goal.unreachable-requires
unreachable-requires c =
    not_refused c.in-Err-NotWritable.field-0 c.in-Err-NotWritable.field-0-0 (blob_of c.locals_row.result 0 c.points_given.result.now) c.in-Err-NotWritable.field-0-is c.in-Err-NotWritable.ensures
    (spelled_by c.args.edit.now c.locals_row.result c.points_given.result.now c.points_given.ensures c.requires)
