use Rattle.enc_list_delta.proofs.RowRules.{keeps_signatures}
use Rattle.enc_list_delta.proofs.rules.bad_signature_law.Goals as goal

pub returns : goal.returns
returns c = keeps_signatures
