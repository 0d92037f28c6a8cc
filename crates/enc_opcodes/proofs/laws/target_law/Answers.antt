use Rattle.enc_opcodes.proofs.Targets.{targets_are_sums}
use Rattle.enc_opcodes.proofs.laws.target_law.Goals as goal

pub returns : goal.returns
returns c = targets_are_sums
