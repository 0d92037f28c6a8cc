use Rattle.enc_reference_depth.proofs.Layouts.{slots_last}
use Rattle.enc_reference_depth.proofs.laws.slots_last_law.Goals as goal

pub returns : goal.returns
returns c = slots_last
