use Rattle.enc_jobs.proofs.Standing.{stands, begin_there}
use Rattle.enc_jobs.proofs.laws.target_laws.Goals as goal

pub returns-clause-stand : goal.returns-clause-stand
returns-clause-stand c = stands

pub returns-clause-begin : goal.returns-clause-begin
returns-clause-begin c = begin_there
