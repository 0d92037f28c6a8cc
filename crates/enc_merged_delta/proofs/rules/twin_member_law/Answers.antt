use Rattle.enc_merged_delta.proofs.TwinsSaid.{keeps_twins}
use Rattle.enc_merged_delta.proofs.rules.twin_member_law.Goals as goal

pub returns : goal.returns
returns c = keeps_twins
