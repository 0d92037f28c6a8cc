use Rattle.enc_schema.proofs.TableNames.{which_tables, columns_name, table_named, column_named}
use Rattle.enc_schema.proofs.laws.table_laws.Goals as goal

pub returns-clause-which : goal.returns-clause-which
returns-clause-which c = which_tables

pub returns-clause-names : goal.returns-clause-names
returns-clause-names c = columns_name

pub returns-clause-tables : goal.returns-clause-tables
returns-clause-tables c = table_named

pub returns-clause-columns : goal.returns-clause-columns
returns-clause-columns c = column_named
