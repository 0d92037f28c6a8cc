use Rattle.enc_jobs.proofs.PointForms.{points_lie}
use Rattle.enc_jobs.proofs.laws.points_law.Goals as goal

pub returns : goal.returns
returns c = points_lie
