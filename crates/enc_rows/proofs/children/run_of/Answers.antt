use Rattle.std.proofs.Common.{refl}
use Rattle.enc_schema.proofs.ChildTables.{run_column_is}
use Rattle.enc_rows.proofs.children.run_of.Goals as goal

pub number_of-first-requires-clause-column : goal.number_of-first-requires-clause-column
number_of-first-requires-clause-column c = rw (c.owner_table-owners.ensures, c.run_column-column.ensures, run_column_is c.args.child c.requires.child) refl

pub number_of-end-requires-clause-column : goal.number_of-end-requires-clause-column
number_of-end-requires-clause-column c = rw (c.owner_table-owners.ensures, c.run_column-column.ensures, run_column_is c.args.child c.requires.child) refl
