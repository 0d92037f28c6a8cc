use Rattle.enc_checker.proofs.KnownWithin.{base_knows_within, delta_knows_within}
use Rattle.enc_checker.proofs.laws.within_law.Goals as goal

pub returns-clause-base : goal.returns-clause-base
returns-clause-base c = base_knows_within

pub returns-clause-delta : goal.returns-clause-delta
returns-clause-delta c = delta_knows_within
