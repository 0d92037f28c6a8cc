use Rattle.enc_merged_delta.proofs.BodiesSaid.{keeps_bodies}
use Rattle.enc_merged_delta.proofs.rules.broken_body_law.Goals as goal

pub returns : goal.returns
returns c = keeps_bodies
