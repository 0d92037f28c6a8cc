use Rattle.std.proofs.Common.{refl}
use Rattle.enc_schema.proofs.ChildTables.{run_column_is}
use Rattle.enc_rows.proofs.owners.first_start.Goals as goal

pub number_of-requires-clause-column : goal.number_of-requires-clause-column
number_of-requires-clause-column c = rw (c.owner_table-owners.ensures, c.run_column.ensures, run_column_is c.args.child c.requires.child) refl
