use Rattle.enc_reference_depth.proofs.Layouts.{layouts_last}
use Rattle.enc_reference_depth.proofs.laws.layouts_last_law.Goals as goal

pub returns : goal.returns
returns c = layouts_last
