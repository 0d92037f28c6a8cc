use Rattle.enc_generator.proofs.GeneratedPoints.{generated_lie, generated_tells_nothing}
use Rattle.enc_generator.proofs.Cases.{generated_follow}
use Rattle.enc_generator.proofs.laws.generated_laws.Goals as goal

pub returns-clause-fit : goal.returns-clause-fit
returns-clause-fit c start count j l few there = (generated_follow start count j l few there).0

pub returns-clause-apply : goal.returns-clause-apply
returns-clause-apply c start count j l few there = (generated_follow start count j l few there).1

pub returns-clause-points : goal.returns-clause-points
returns-clause-points c = generated_lie

pub returns-clause-silent : goal.returns-clause-silent
returns-clause-silent c = generated_tells_nothing
