use Rattle.enc_merged_delta.proofs.BodiesSaid.{keeps_locals}
use Rattle.enc_merged_delta.proofs.rules.bad_locals_law.Goals as goal

pub returns : goal.returns
returns c = keeps_locals
