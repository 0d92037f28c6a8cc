use Rattle.std.proofs.Common.{arith}
use Rattle.enc_rows.proofs.NineColumns.{column_few, table_few}
use Rattle.enc_rows.proofs.columns.place_of.Goals as goal

pub returns-clause-few : goal.returns-clause-few
returns-clause-few c = omega (arith, column_few c.args.table c.args.column c.requires, table_few c.args.table c.args.column c.requires)

pub returns-clause-column : goal.returns-clause-column
returns-clause-column c = column_few c.args.table c.args.column c.requires
