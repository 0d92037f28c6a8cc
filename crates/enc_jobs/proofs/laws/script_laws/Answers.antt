use Rattle.enc_jobs.proofs.Scripted.{script_is_short, script_names_deltas}
use Rattle.enc_jobs.proofs.laws.script_laws.Goals as goal

pub returns-clause-short : goal.returns-clause-short
returns-clause-short c = script_is_short

pub returns-clause-names : goal.returns-clause-names
returns-clause-names c = script_names_deltas
