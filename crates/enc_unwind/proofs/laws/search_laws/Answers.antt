use Rattle.enc_unwind.proofs.Firsts.{first_catches, none_catches_unheld, first_runs, finally_runs_at_leave}
use Rattle.enc_unwind.proofs.laws.search_laws.Goals as goal

pub returns-clause-catches : goal.returns-clause-catches
returns-clause-catches c = first_catches

pub returns-clause-unheld : goal.returns-clause-unheld
returns-clause-unheld c = none_catches_unheld

pub returns-clause-runs : goal.returns-clause-runs
returns-clause-runs c = first_runs

pub returns-clause-leave : goal.returns-clause-leave
returns-clause-leave c = finally_runs_at_leave
