use Rattle.enc_reference_depth.proofs.Twice.{kept_twice}
use Rattle.enc_reference_depth.proofs.laws.kept_by_both_law.Goals as goal

pub returns : goal.returns
returns c = kept_twice
