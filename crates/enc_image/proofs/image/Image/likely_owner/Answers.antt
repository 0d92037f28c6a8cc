use Rattle.std.proofs.Common.{refl}
use Rattle.enc_schema.proofs.ChildTables.{run_column_is}
use Rattle.enc_image.proofs.image.Image.likely_owner.Goals as goal

pub cell-requires-clause-column : goal.cell-requires-clause-column
cell-requires-clause-column c = rw (c.owner_table-table.ensures, c.run_column-column.ensures, run_column_is c.args.child.table c.requires.table) refl
