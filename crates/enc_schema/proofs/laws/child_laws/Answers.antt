use Rattle.enc_schema.proofs.ChildTables.{run_column_is, runs_are}
use Rattle.enc_schema.proofs.laws.child_laws.Goals as goal

pub returns-clause-columns : goal.returns-clause-columns
returns-clause-columns c = run_column_is

pub returns-clause-runs : goal.returns-clause-runs
returns-clause-runs c = runs_are
