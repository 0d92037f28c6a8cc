use Rattle.enc_merged_delta.proofs.BodiesSaid.{keeps_signatures}
use Rattle.enc_merged_delta.proofs.rules.bad_signature_law.Goals as goal

pub returns : goal.returns
returns c = keeps_signatures
