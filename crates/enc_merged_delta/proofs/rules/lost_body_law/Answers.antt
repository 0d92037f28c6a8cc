use Rattle.enc_merged_delta.proofs.BodiesSaid.{keeps_all_bodies}
use Rattle.enc_merged_delta.proofs.rules.lost_body_law.Goals as goal

pub returns : goal.returns
returns c = keeps_all_bodies
